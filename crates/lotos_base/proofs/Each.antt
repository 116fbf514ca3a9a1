-- What holds of each member of a list.
use Rattle.std.proofs.Common.{◌≡◌, ℕ, zero, suc, List, [], ◌∷◌, ◌++◌, subst}
use Rattle.std.specs.Prelude.{Some, slice_get}
use Rattle.std.proofs.lemmas.Option.{same_Some}

-- P holds of each member
abbrev pub Each : {X : Type 0} → (X → Type 0) → List X → Type 0
Each P [] = Unit {0}
Each P (x ∷ xs) = P x × Each P xs

-- what holds of each member holds of the one at a position
pub each_member : {X : Type 0} (P : X → Type 0) (xs : List X) (i : ℕ) (x : X) → Each P xs
    → slice_get xs i ≡ Some x → P x
each_member P [] i x h e = cc
each_member P (y ∷ ys) zero x h e = subst P (same_Some y x e) h.0
each_member P (y ∷ ys) (suc i) x h e = each_member P ys i x h.1 e

-- of two lists joined
pub each_join : {X : Type 0} (P : X → Type 0) (xs ys : List X) → Each P xs → Each P ys → Each P (xs ++ ys)
each_join P [] ys h k = k
each_join P (x ∷ xs) ys h k = (h.0, each_join P xs ys h.1 k)
