-- Entries of lists after one is set or one is appended.
use Rattle.std.proofs.Common.{◌≡◌, ◌≢◌, ◌<◌, ◌⊎◌, inl, inr, ℕ, zero, suc, List, [], ◌∷◌, ◌++◌, length, get_or, slice_get, Some, refl, ap, arith}
use Rattle.std.proofs.lemmas.Bool.Decides.{eqb_tells}
use Rattle.std.proofs.lemmas.Option.{same_Some, none-some}

-- Two numbers are one or not.
pub same_or_other : (i j : ℕ) → (i ≡ j) ⊎ (i ≢ j)
same_or_other i j = elim (eqb_tells i j) [ inl same ↦ inl same.1 | inr other ↦ inr other.1 ]

-- An entry that is not the one past the end is within.
pub within : {X : Type 0} (xs : List X) (i : ℕ) (x d : X) → get_or xs i d ≡ x → d ≢ x → i < length xs
within [] i x d is other = absurd (other is)
within (y ∷ xs) zero x d is other = omega arith
within (y ∷ xs) (suc i) x d is other = let below : i < length xs = within xs i x d is other in omega arith

-- An entry of a list with one more is one of the list or the last.
pub in_longer : {X : Type 0} (xs : List X) (y : X) (i : ℕ) (x : X) → slice_get (xs ++ y ∷ []) i ≡ Some x
    → (slice_get xs i ≡ Some x) ⊎ ((i ≡ length xs) × (y ≡ x))
in_longer [] y zero x at = inr (refl, same_Some y x at)
in_longer [] y (suc i) x at = absurd (none-some x at)
in_longer (z ∷ xs) y zero x at = inl at
in_longer (z ∷ xs) y (suc i) x at = later (in_longer xs y i x at)
  where
    later : (slice_get xs i ≡ Some x) ⊎ ((i ≡ length xs) × (y ≡ x)) → (slice_get xs i ≡ Some x) ⊎ ((suc i ≡ suc (length xs)) × (y ≡ x))
    later (inl h) = inl h
    later (inr h) = inr (ap suc h.0, h.1)

-- An entry that is appended stands last.
pub stands_last : {X : Type 0} (xs : List X) (y : X) → slice_get (xs ++ y ∷ []) (length xs) ≡ Some y
stands_last [] y = refl
stands_last (z ∷ xs) y = stands_last xs y
