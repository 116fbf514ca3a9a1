-- Events that answer, member by member.
use Rattle.std.proofs.Common.{◌≡◌, ◌⊎◌, inl, inr, ◌<◌, ◌+◌, ℕ, zero, suc, List, [], ◌∷◌, drop, length, get_or, Some, slice_get, refl, ap, sym, ◌∙◌, subst, arith}
use Rattle.std.proofs.Math.Nat.{eq-or-lt_of_le}
use Rattle.behaviour_semantics.proofs.OptionLemmas.{some_value}

-- the same of a member that is read with another one in its stead past the end
pub place_given : {X : Type 0} (xs : List X) (i : ℕ) (d : X) → i < length xs → slice_get xs i ≡ Some (get_or xs i d)
place_given [] i d within = absurd (omega (arith, within))
place_given (y ∷ xs) zero d within = refl
place_given (y ∷ xs) (suc i) d within = place_given xs i d (omega (arith, within))

-- what is left from a place on
pub drop_at : {X : Type 0} (xs : List X) (i : ℕ) (x : X) → slice_get xs i ≡ Some x → drop i xs ≡ x ∷ drop (i + 1) xs
drop_at [] i x there = absurd (cc there)
drop_at {X = X} (y ∷ xs) zero x there = ap (λ (it : X). it ∷ xs) (some_value there)
drop_at (y ∷ xs) (suc i) x there =
    let next : suc (i + 1) ≡ suc i + 1 = omega arith in
    drop_at xs i x there ∙ ap (λ (n : ℕ). x ∷ drop n (y ∷ xs)) next

-- each place of a list is before a bound
pub place_within : {X : Type 0} (xs : List X) (i : ℕ) (x : X) → slice_get xs i ≡ Some x → i < length xs
place_within [] i x at = absurd (cc at)
place_within (y ∷ xs) zero x at = omega arith
place_within (y ∷ xs) (suc i) x at = omega (arith, place_within xs i x at)

-- what holds of no place below a bound, and of the member there, holds of no place below the next one
pub none_below_next : {X : Type 0} (P : X → Type 0) (xs : List X) (i : ℕ) (x : X) → slice_get xs i ≡ Some x
    → ((k : ℕ) (y : X) → k < i → slice_get xs k ≡ Some y → P y → ⊥) → (P x → ⊥)
    → (k : ℕ) (y : X) → k < i + 1 → slice_get xs k ≡ Some y → P y → ⊥
none_below_next {X = X} P xs i x there before here k y below at h = by (eq-or-lt_of_le {n = k} {m = i} (omega (arith, below)))
  where
    by : (k ≡ i) ⊎ (k < i) → ⊥
    by (inl same) = here (subst P (some_value (sym at ∙ (ap (slice_get xs) same ∙ there))) h)
    by (inr earlier) = before k y earlier at h

-- what holds of each place below a bound, and of the member there, holds of each place below the next one
pub each_below_next : {X : Type 0} (P : X → Type 0) (xs : List X) (i : ℕ) (x : X) → slice_get xs i ≡ Some x
    → ((k : ℕ) (y : X) → k < i → slice_get xs k ≡ Some y → P y) → P x
    → (k : ℕ) (y : X) → k < i + 1 → slice_get xs k ≡ Some y → P y
each_below_next {X = X} P xs i x there before here k y below at = by (eq-or-lt_of_le {n = k} {m = i} (omega (arith, below)))
  where
    by : (k ≡ i) ⊎ (k < i) → P y
    by (inl same) = subst P (some_value (sym there ∙ (ap (slice_get xs) (sym same) ∙ at))) here
    by (inr earlier) = before k y earlier at

-- the same where all is known of the member at the bound
pub each_below : {X : Type 0} (P : X → Type 0) (xs : List X) (i : ℕ)
    → ((k : ℕ) (y : X) → k < i → slice_get xs k ≡ Some y → P y) → ((y : X) → slice_get xs i ≡ Some y → P y)
    → (k : ℕ) (y : X) → k < i + 1 → slice_get xs k ≡ Some y → P y
each_below P xs i before here k y below at = by (eq-or-lt_of_le {n = k} {m = i} (omega (arith, below)))
  where
    by : (k ≡ i) ⊎ (k < i) → P y
    by (inl same) = here y (ap (slice_get xs) (sym same) ∙ at)
    by (inr earlier) = before k y earlier at
