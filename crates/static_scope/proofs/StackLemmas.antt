-- Stacks whose last entry is the innermost one.
use Rattle.std.proofs.Common.{◌≡◌, ◌<◌, ℕ, ◌+◌, List, [], ◌∷◌, ◌++◌, length, drop, get_or, map, ap, sym, ◌∙◌}
use Rattle.std.specs.Prelude.{reverse}
use Rattle.std.proofs.lemmas.List.{map-append, reverse-append, append_assoc}
use Rattle.lotos_base.proofs.Pieces.{next_member}

-- one entry more, and the last one taken off
pub pushed : {A B : Type 0} (f : A → B) (before after : List A) (x : A) → after ≡ before ++ x ∷ []
    → reverse (map f after) ≡ f x ∷ reverse (map f before)
pushed f before after x are =
    ap (λ xs. reverse (map f xs)) are ∙ ap reverse (map-append f before (x ∷ [])) ∙ reverse-append (map f before) (f x ∷ [])

-- those that are popped, the last one first, stand in front of the others
pub moved : {A B : Type 0} (f : A → B) (before after : List A) (x : A) (others more whole : List B) → before ≡ after ++ x ∷ []
    → more ≡ f x ∷ others → map f before ++ others ≡ whole → map f after ++ more ≡ whole
moved f before after x others more whole are next so_far =
    ap (λ ys. map f after ++ ys) next ∙ sym (append_assoc (map f after) (f x ∷ []) others)
    ∙ ap (λ ys. ys ++ others) (sym (map-append f after (x ∷ []))) ∙ ap (λ xs. map f xs ++ others) (sym are) ∙ so_far

-- one member more of a list that is gone over
pub member_step : {A B : Type 0} (whole_of : List A → List B) (f : A → B)
    → ((x : A) (xs : List A) → whole_of (x ∷ xs) ≡ f x ∷ whole_of xs) → (items : List A) (i : ℕ) (x : A) (made after whole : List B) (y : B)
    → i < length items → x ≡ get_or items i x → y ≡ f x → after ≡ made ++ y ∷ [] → made ++ whole_of (drop i items) ≡ whole
    → after ++ whole_of (drop (i + 1) items) ≡ whole
member_step whole_of f shape items i x made after whole y within is value are so_far =
    ap (λ ys. ys ++ whole_of (drop (i + 1) items)) (are ∙ ap (λ z. made ++ z ∷ []) value)
    ∙ append_assoc made (f x ∷ []) (whole_of (drop (i + 1) items))
    ∙ ap (λ ys. made ++ ys) (sym (ap whole_of (next_member items i x within is) ∙ shape x (drop (i + 1) items))) ∙ so_far
