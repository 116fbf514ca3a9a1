-- A maker that is noted in a list of the code.
use Rattle.std.proofs.Common.{◌≡◌, ℕ, zero, suc, ◌<◌, ◌≤◌, false, List, [], ◌∷◌, ◌++◌, map, length, get_or, set, refl, ap, sym, ◌∙◌, arith}
use Rattle.std.specs.Prelude.{Option, Some, None}
use Rattle.std.proofs.lemmas.List.{length-map, map-append}
use Rattle.lotos_base.specs.Equation.{Place}
use Rattle.type_renaming.specs.Noting.{first_place, maker_at, no_makers, maker_noted, two_makers}

-- one that is there
pub noted_there : {A : Type 0} (seen : A → Option Place) (xs : List A) (n : ℕ) (before maker new : A) → n < length xs
    → before ≡ get_or xs n before → seen new ≡ first_place (seen before) (seen maker)
    → map seen (set xs n new) ≡ maker_noted (map seen xs) n (seen maker)
noted_there seen [] n before maker new within is first = absurd (omega (arith, within))
noted_there {A = A} seen (x ∷ xs) zero before maker new within is first =
    ap (λ (p : Option Place). p ∷ map seen xs) (first ∙ ap (λ (y : A). first_place (seen y) (seen maker)) is)
noted_there seen (x ∷ xs) (suc n) before maker new within is first =
    ap (λ (ps : List (Option Place)). seen x ∷ ps) (noted_there seen xs n before maker new (omega (arith, within)) is first)

pub maker_there : {A : Type 0} (seen : A → Option Place) (xs : List A) (n : ℕ) (before : A) → n < length xs → before ≡ get_or xs n before
    → seen before ≡ maker_at (map seen xs) n
maker_there seen [] n before within is = absurd (omega (arith, within))
maker_there seen (x ∷ xs) zero before within is = ap seen is
maker_there seen (x ∷ xs) (suc n) before within is = maker_there seen xs n before (omega (arith, within)) is

-- a new one
at_end : (ps : List (Option Place)) (n : ℕ) (maker : Option Place) → n ≡ length ps → maker_noted ps n maker ≡ ps ++ maker ∷ []
at_end [] n maker is = refl
at_end (p ∷ ps) zero maker is = absurd (omega (arith, is))
at_end (p ∷ ps) (suc n) maker is = ap (λ (qs : List (Option Place)). p ∷ qs) (at_end ps n maker (omega (arith, is)))

pub noted_new : {A : Type 0} (seen : A → Option Place) (xs more : List A) (n : ℕ) (maker : A) → length xs ≤ n
    → n ≤ length (map seen xs) → more ≡ xs ++ maker ∷ [] → map seen more ≡ maker_noted (map seen xs) n (seen maker)
noted_new {A = A} seen xs more n maker past within is =
    let long : length (map seen xs) ≡ length xs = length-map xs seen in
    let at : n ≡ length (map seen xs) = omega (arith, long, past, within) in
    ap (λ (ys : List A). map seen ys) is ∙ map-append seen xs (maker ∷ []) ∙ sym (at_end (map seen xs) n (seen maker) at)

none_past : (ps : List (Option Place)) (n : ℕ) → length ps ≤ n → maker_at ps n ≡ None
none_past [] n past = refl
none_past (p ∷ ps) zero past = absurd (omega (arith, past))
none_past (p ∷ ps) (suc n) past = none_past ps n (omega (arith, past))

none_two : (p : Option Place) → two_makers p None ≡ false
none_two None = refl
none_two (Some p) = refl

pub new_is_alone : {A : Type 0} (seen : A → Option Place) (xs : List A) (n : ℕ) (maker : Option Place) → length xs ≤ n
    → false ≡ two_makers maker (maker_at (map seen xs) n)
new_is_alone seen xs n maker past =
    let long : length (map seen xs) ≡ length xs = length-map xs seen in
    let behind : length (map seen xs) ≤ n = omega (arith, long, past) in
    sym (ap (λ (p : Option Place). two_makers maker p) (none_past (map seen xs) n behind) ∙ none_two maker)

-- as many members without makers
pub one_more_none : (n : ℕ) → no_makers n ++ None ∷ [] ≡ no_makers (suc n)
one_more_none zero = refl
one_more_none (suc n) = ap (λ (ps : List (Option Place)). None ∷ ps) (one_more_none n)
