-- What holds of each member of a list (`Each` of `lotos_base`), and the members of two lists joined.
use Rattle.std.proofs.Common.{◌≡◌, ℕ, zero, suc, ◌+◌, List, [], ◌∷◌, ◌++◌, map, length, refl, subst, inl, inr, arith}
use Rattle.std.specs.Prelude.{◌⊎◌, Some, slice_get}
use Rattle.lotos_base.proofs.Each.{Each}

pub each_of : {X : Type 0} (P : X → Type 0) (xs : List X) → ((k : ℕ) (x : X) → slice_get xs k ≡ Some x → P x) → Each P xs
each_of P [] all = tt
each_of P (x ∷ xs) all = (all 0 x refl, each_of P xs (λ k. all (suc k)))

pub each_more : {X : Type 0} (P Q : X → Type 0) (xs : List X) → ((x : X) → P x → Q x) → Each P xs → Each Q xs
each_more P Q [] more h = tt
each_more P Q (x ∷ xs) more h = (more x h.0, each_more P Q xs more h.1)

pub each_both : {X : Type 0} (P Q R : X → Type 0) (xs : List X) → ((x : X) → P x → Q x → R x) → Each P xs → Each Q xs → Each R xs
each_both P Q R [] both h k = tt
each_both P Q R (x ∷ xs) both h k = (both x h.0 k.0, each_both P Q R xs both h.1 k.1)

pub each_front : {X : Type 0} (P : X → Type 0) (xs ys : List X) → Each P (xs ++ ys) → Each P xs
each_front P [] ys h = tt
each_front P (x ∷ xs) ys h = (h.0, each_front P xs ys h.1)

pub each_back : {X : Type 0} (P : X → Type 0) (xs ys : List X) → Each P (xs ++ ys) → Each P ys
each_back P [] ys h = h
each_back P (x ∷ xs) ys h = each_back P xs ys h.1

pub each_map : {X Y : Type 0} (f : X → Y) (P : Y → Type 0) (xs : List X) → Each (λ x. P (f x)) xs → Each P (map f xs)
each_map f P [] h = tt
each_map f P (x ∷ xs) h = (h.0, each_map f P xs h.1)

pub each_of_map : {X Y : Type 0} (f : X → Y) (P : Y → Type 0) (xs : List X) → Each P (map f xs) → Each (λ x. P (f x)) xs
each_of_map f P [] h = tt
each_of_map f P (x ∷ xs) h = (h.0, each_of_map f P xs h.1)

-- ---- two lists joined, by index

pub at_back : {X : Type 0} (xs ys : List X) (i k : ℕ) (x : X) → k ≡ length xs + i → slice_get ys i ≡ Some x
    → slice_get (xs ++ ys) k ≡ Some x
at_back [] ys i k x e at = subst (λ (j : ℕ). slice_get ys j ≡ Some x) (omega (arith, e)) at
at_back (z ∷ xs) ys i zero x e at = absurd (omega (arith, e))
at_back (z ∷ xs) ys i (suc k) x e at = at_back xs ys i k x (omega (arith, e)) at

pub from_join : {X : Type 0} (xs ys : List X) (k : ℕ) (x : X) → slice_get (xs ++ ys) k ≡ Some x
    → (slice_get xs k ≡ Some x) ⊎ ((i : ℕ) × (k ≡ length xs + i) × (slice_get ys i ≡ Some x))
from_join [] ys k x at = inr (k, omega arith, at)
from_join (z ∷ xs) ys zero x at = inl at
from_join {X = X} (z ∷ xs) ys (suc k) x at = go (from_join xs ys k x at)
  where
    go : (slice_get xs k ≡ Some x) ⊎ ((i : ℕ) × (k ≡ length xs + i) × (slice_get ys i ≡ Some x))
        → (slice_get (z ∷ xs) (suc k) ≡ Some x) ⊎ ((i : ℕ) × (suc k ≡ length (z ∷ xs) + i) × (slice_get ys i ≡ Some x))
    go (inl front) = inl front
    go (inr (i, e, back)) = inr (i, omega (arith, e), back)
