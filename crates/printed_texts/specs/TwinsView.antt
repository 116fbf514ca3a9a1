-- What is known of the operations of a signature.
use Rattle.std.specs.Prelude.{ℕ, Bool, Option}
use Rattle.std.specs.Ordering.{nat_cmp}
use Rattle.std.specs.BTreeMap.{get}
use Rattle.printed_texts.specs.declared.twins.KnownTwins.{KnownTwins}

-- whether the operation with this number has a twin, where it is known
abbrev pub known_at : KnownTwins → ℕ → Option Bool
known_at twins number = get nat_cmp twins.by_number number
