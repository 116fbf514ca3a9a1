-- Tests over the members of a list: of any one, of all.
use Rattle.std.proofs.Common.{◌≡◌, ℕ, zero, suc, Bool, true, false, List, [], ◌∷◌, refl, ap, sym, ◌∙◌, inl, inr}
use Rattle.std.specs.Prelude.{Some, slice_get, ◌||◌}
use Rattle.std.specs.List.{list_any, list_all}
use Rattle.std.proofs.lemmas.Bool.{false≢true, and_parts, and_from, or_cases, or_left, or_right}

pub list_any-at : {X : Type 0} (test : X → Bool) (xs : List X) → list_any test xs ≡ true
    → (i : ℕ) × (x : X) × (slice_get xs i ≡ Some x) × (test x ≡ true)
list_any-at test [] h = absurd (false≢true h)
list_any-at test (x ∷ xs) h =
    elim (or_cases (test x) (list_any test xs) h) [
      | inl here ↦ (0, x, refl, here)
      | inr later ↦ let at = list_any-at test xs later in (suc at.0, at.1, at.2, at.3)
    ]

pub list_any-weaker : {X : Type 0} (test other : X → Bool) → ((x : X) → test x ≡ true → other x ≡ true) → (xs : List X)
    → list_any test xs ≡ true → list_any other xs ≡ true
list_any-weaker test other weaker [] h = let e : false ≡ true = h in cc
list_any-weaker test other weaker (x ∷ xs) h = go (test x) refl (list_any-weaker test other weaker xs) h
  where
    go : (b : Bool) → test x ≡ b → (list_any test xs ≡ true → list_any other xs ≡ true) → (b || list_any test xs) ≡ true
        → (other x || list_any other xs) ≡ true
    go true is rest h = or_left (other x) (list_any other xs) (weaker x is)
    go false is rest h = or_right (other x) (list_any other xs) (rest h)

pub list_all-at : {X : Type 0} (test : X → Bool) (xs : List X) (i : ℕ) (x : X) → list_all test xs ≡ true → slice_get xs i ≡ Some x
    → test x ≡ true
list_all-at test [] i x h is = absurd (cc)
list_all-at test (y ∷ ys) zero x h is = let e : y ≡ x = cc in ap test (sym e) ∙ (and_parts (test y) (list_all test ys) h).0
list_all-at test (y ∷ ys) (suc i) x h is = list_all-at test ys i x (and_parts (test y) (list_all test ys) h).1 is

pub list_all-from_each : {X : Type 0} (test : X → Bool) (xs : List X) → ((i : ℕ) (x : X) → slice_get xs i ≡ Some x → test x ≡ true)
    → list_all test xs ≡ true
list_all-from_each test [] each = refl
list_all-from_each test (x ∷ xs) each =
    and_from (test x) (list_all test xs) (each 0 x refl) (list_all-from_each test xs (λ i. each (suc i)))
