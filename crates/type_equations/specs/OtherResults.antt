-- What is known of the results of some operations.
use Rattle.std.specs.Prelude.{ℕ, Bool, true, false, Option, None, Some, not, nat_eq}

-- Whether one of them is another than this one. There are none, or several, or they have one in common.
abbrev pub has_other : Option (Option ℕ) → ℕ → Bool
has_other None one = false
has_other (Some None) one = true
has_other (Some (Some common)) one = not (nat_eq one common)
