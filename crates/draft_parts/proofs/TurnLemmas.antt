-- Loops that make a list of a list, one after the other, with a number that counts.
use Rattle.std.proofs.Common.{◌≡◌, ◌<◌, ◌++◌, ℕ, suc, ◌+◌, List, [], ◌∷◌, map, length, drop, get_or, ap, sym, ◌∙◌, subst, add-one, append_assoc}
use Rattle.std.proofs.Math.Seq.{drop-cons}
use Rattle.std.proofs.lemmas.List.{map-append}
use Rattle.behaviour_semantics.specs.WellFormed.{Every}

-- one turn of the loop
pub one_turn : {A X : Type 0} (f : ℕ → List A → List X) (items : List A) (i : ℕ) (x : A) (old more whole : List X) (number later : ℕ)
    → i < length items → x ≡ get_or items i x
    → ((rest : List A) → more ++ f later rest ≡ old ++ f number (x ∷ rest))
    → old ++ f number (drop i items) ≡ whole → more ++ f later (drop (i + 1) items) ≡ whole
one_turn {A = A} {X = X} f items i x old more whole number later within is step before =
    let here : drop i items ≡ x ∷ drop (suc i) items =
    drop-cons items i x within ∙ ap (λ (y : A). y ∷ drop (suc i) items) (sym is) in
    ap (λ (j : ℕ). more ++ f later (drop j items)) (add-one i)
    ∙ (step (drop (suc i) items) ∙ (ap (λ (xs : List A). old ++ f number xs) (sym here) ∙ before))

-- one more at the end
pub pushed : {X Y : Type 0} (f : X → Y) (old more : List X) (x : X) (y : Y) (rest others : List Y) → more ≡ old ++ x ∷ [] → f x ≡ y
    → rest ≡ others → map f more ++ rest ≡ map f old ++ (y ∷ others)
pushed {X = X} {Y = Y} f old more x y rest others m is same =
    ap (λ (xs : List X). map f xs ++ rest) m
    ∙ (ap (λ (ys : List Y). ys ++ rest) (map-append f old (x ∷ []))
    ∙ (append_assoc (map f old) (f x ∷ []) rest
    ∙ (ap (λ (z : Y). map f old ++ (z ∷ rest)) is ∙ ap (λ (ys : List Y). map f old ++ (y ∷ ys)) same)))

-- the member at an index, and those behind it
pub at_turn : {X : Type 0} (P : X → Type 0) (items : List X) (i : ℕ) (x : X) → i < length items → x ≡ get_or items i x
    → Every P (drop i items) → P x × Every P (drop (i + 1) items)
at_turn {X = X} P items i x within is h =
    let here : drop i items ≡ x ∷ drop (suc i) items =
    drop-cons items i x within ∙ ap (λ (y : X). y ∷ drop (suc i) items) (sym is) in
    let both : Every P (x ∷ drop (suc i) items) = subst (Every P) here h in
    (both.0, subst (λ (j : ℕ). Every P (drop j items)) (sym (add-one i)) both.1)
