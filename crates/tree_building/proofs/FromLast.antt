-- Lists whose last element comes first.
use Rattle.std.proofs.Common.{◌≡◌, ◌∙◌, sym, List, [], ◌∷◌, ◌++◌, map, reverse, refl, ap}
use Rattle.std.proofs.lemmas.List.{reverse-append, map-append}
use Rattle.lotos_rows.specs.HandedOn.{from_last}

pub from_last_more : {A B : Type 0} (f : A → B) (list : List A) (last : A) → from_last f (list ++ last ∷ []) ≡ f last ∷ from_last f list
unfolding from_last
from_last_more f list last = ap reverse (map-append f list (last ∷ [])) ∙ reverse-append (map f list) (f last ∷ [])

pub from_last_none : {A B : Type 0} (f : A → B) → from_last f [] ≡ []
unfolding from_last
from_last_none f = refl

reverse_cons : {A : Type 0} (first : A) (list : List A) → reverse (first ∷ list) ≡ reverse list ++ first ∷ []
reverse_cons first list = reverse-append (first ∷ []) list

-- a list that is turned round
pub map_reverse : {A B : Type 0} (f : A → B) (list : List A) → map f (reverse list) ≡ from_last f list
unfolding from_last
map_reverse f [] = refl
map_reverse f (x ∷ xs) =
    ap (map f) (reverse_cons x xs) ∙ (map-append f (reverse xs) (x ∷ [])
    ∙ (ap (λ ys. ys ++ f x ∷ []) (map_reverse f xs) ∙ sym (reverse_cons (f x) (map f xs))))

-- a list behind which another is put
pub from_last_append : {A B : Type 0} (f : A → B) (list others : List A)
    → from_last f (list ++ others) ≡ from_last f others ++ from_last f list
unfolding from_last
from_last_append f list others = ap reverse (map-append f list others) ∙ reverse-append (map f list) (map f others)
