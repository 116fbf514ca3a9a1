-- Lists whose last element is on top.
use Rattle.std.proofs.Common.{◌≡◌, ◌∙◌, inl, inr, ℕ, ◌-◌, ◌≤◌, List, [], ◌∷◌, ◌++◌, length, map, reverse, take, drop, refl, ap, sym, arith}
use Rattle.std.proofs.lemmas.Bool.{cases_lt}
use Rattle.std.proofs.lemmas.List.{reverse-append, length-reverse, length-drop, take-append-drop, take_all, drop_all, map-append, take-map, drop-map}
use Rattle.ll_engine.specs.Run.{from_last}
use Rattle.ll_engine.proofs.Folding.{append_parts}

pub map-reverse : {A B : Type 0} (f : A → B) (list : List A) → map f (reverse list) ≡ reverse (map f list)
map-reverse f [] = refl
map-reverse f (x ∷ list) =
    ap (map f) (reverse-append (x ∷ []) list) ∙ map-append f (reverse list) (x ∷ []) ∙ ap (λ l. l ++ f x ∷ []) (map-reverse f list)
    ∙ sym (reverse-append (f x ∷ []) (map f list))

pub from_last-is : {A B : Type 0} (f : A → B) (list : List A) → from_last f list ≡ map f (reverse list)
unfolding from_last
from_last-is f list = sym (map-reverse f list)

-- the last elements of a list
pub last_taken : {A : Type 0} (list : List A) (count : ℕ) →
    (reverse (drop (length list - count) list) ≡ take count (reverse list))
    × (reverse (take (length list - count) list) ≡ drop count (reverse list))
last_taken {A} list count =
    elim (cases_lt (length list) count) [
      | inl fewer ↦
          let at : length list - count ≡ 0 = omega (arith, fewer) in
          let whole : length (reverse list) ≤ count = let len = length-reverse list in omega (arith, fewer, len) in (
            ap (λ (n : ℕ). reverse (drop n list)) at ∙ sym (take_all count (reverse list) whole),
            ap (λ (n : ℕ). reverse (take n list)) at ∙ sym (drop_all count (reverse list) whole),
          )
      | inr enough ↦
          let at = length list - count in
          let split = sym (take-append-drop at list) in
          let both = ap reverse split ∙ reverse-append (take at list) (drop at list) in
          let len : length (reverse (drop at list)) ≡ count = let a = length-reverse (drop at list) in let b = length-drop at list in
          omega (arith, a, b, enough) in
          let parts = append_parts (reverse (drop at list)) (reverse (take at list)) (reverse list) count len both in
          (sym parts.0, sym parts.1)
    ]

-- values that are taken from the top, as plain values
pub plain_taken : {A B : Type 0} (f : A → B) (taken list : List A) (count : ℕ) → reverse taken ≡ take count (reverse list)
    → from_last f taken ≡ take count (from_last f list)
plain_taken f taken list count is =
    from_last-is f taken ∙ ap (map f) is ∙ sym (take-map f count (reverse list)) ∙ ap (take count) (sym (from_last-is f list))

pub plain_left : {A B : Type 0} (f : A → B) (left list : List A) (count : ℕ) → reverse left ≡ drop count (reverse list)
    → from_last f left ≡ drop count (from_last f list)
plain_left f left list count is =
    from_last-is f left ∙ ap (map f) is ∙ sym (drop-map f count (reverse list)) ∙ ap (drop count) (sym (from_last-is f list))

pub from_last_more : {A B : Type 0} (f : A → B) (list : List A) (x : A) → from_last f (list ++ x ∷ []) ≡ f x ∷ from_last f list
from_last_more f list x = from_last-is f (list ++ x ∷ []) ∙ ap (map f) (reverse-append list (x ∷ []))
    ∙ ap (λ l. f x ∷ l) (sym (from_last-is f list))

pub from_last_none : {A B : Type 0} (f : A → B) → from_last f [] ≡ []
unfolding from_last
from_last_none f = refl
