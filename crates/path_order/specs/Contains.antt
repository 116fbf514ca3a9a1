-- Numbers in lists, by tests that compute.
use Rattle.std.specs.Prelude.{◌≡◌, ℕ, Bool, false, ◌||◌, nat_eq, List, [], ◌∷◌, Some, slice_get}
use Rattle.std.proofs.Common.{get_or}

-- whether the number stands in the list
abbrev pub contains : ℕ → List ℕ → Bool
contains f [] = false
contains f (g ∷ numbers) = nat_eq g f || contains f numbers

-- the flag at a position, false past the end
abbrev pub flag_at : ℕ → List Bool → Bool
flag_at k flags = get_or flags k false

-- No number stands at two places of the list.
abbrev pub IsOnce : List ℕ → Type 0
IsOnce numbers = (i j f : ℕ) → slice_get numbers i ≡ Some f → slice_get numbers j ≡ Some f → i ≡ j
