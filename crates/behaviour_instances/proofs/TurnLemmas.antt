-- Loops that make a list of a list, one after the other.
use Rattle.std.proofs.Common.{◌≡◌, ◌<◌, ℕ, zero, suc, List, [], ◌∷◌, length, drop, get_or, ap, sym, ◌∙◌, subst}
use Rattle.std.proofs.Math.Seq.{drop-cons}

-- what holds of the rest from an index on holds of the whole, where it holds of a list if it holds of its rest
from_rest : {A : Type 0} (P : List A → Type 0) → ((x : A) (rest : List A) → P rest → P (x ∷ rest)) → (i : ℕ) (items : List A)
    → P (drop i items) → P items
from_rest P there zero items h = h
from_rest P there (suc i) [] h = h
from_rest P there (suc i) (x ∷ items) h = there x items (from_rest P there i items h)

-- what holds of the member at an index holds of the whole
pub at_index : {A : Type 0} (P : List A → Type 0) → ((x : A) (rest : List A) → P (x ∷ []) → P (x ∷ rest))
    → ((x : A) (rest : List A) → P rest → P (x ∷ rest)) → (items : List A) (i : ℕ) (x : A) → i < length items → x ≡ get_or items i x
    → P (x ∷ []) → P items
at_index {A = A} P here there items i x within is h =
    let split : drop i items ≡ x ∷ drop (suc i) items =
    drop-cons items i x within ∙ ap (λ (y : A). y ∷ drop (suc i) items) (sym is) in
    from_rest P there i items (subst P (sym split) (here x (drop (suc i) items) h))
