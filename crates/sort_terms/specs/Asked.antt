-- The sort that the `of`s on a node ask for.
use Rattle.std.specs.Prelude.{ℕ, Bool, true, false, nat_eq, Option, Some, None}
use Rattle.sort_terms.specs.declared.asked.Asked.{Asked}
use Rattle.sort_terms.specs.declared.asked.Asked.TheVariants.{Any, Only, Nothing}

-- whether they allow the sort
abbrev pub allows : Asked → ℕ → Bool
allows Any sort = true
allows (Only asked) sort = nat_eq sort asked
allows Nothing sort = false

-- whether this is the sort
abbrev pub is_sort : Option ℕ → ℕ → Bool
is_sort None sort = false
is_sort (Some known) sort = nat_eq sort known
