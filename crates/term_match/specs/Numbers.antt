-- Lists of numbers without repetition.
use Rattle.std.specs.Prelude.{◌≡◌, ℕ, List, Some, slice_get}
use Rattle.std.proofs.Props.{props}

-- No number stands at two places of the list.
abbrev pub AreDistinctNumbers : List ℕ → Type 0
AreDistinctNumbers numbers = (i j n : ℕ) → slice_get numbers i ≡ Some n → slice_get numbers j ≡ Some n → i ≡ j

-- The fact has at most one proof.
pub AreDistinct-prop : (numbers : List ℕ) → IsProp (AreDistinctNumbers numbers)
AreDistinct-prop numbers = hlevel props
