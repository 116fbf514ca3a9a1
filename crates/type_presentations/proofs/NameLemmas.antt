-- Positions of names: the first of them, and one name more.
use Rattle.std.proofs.Common.{◌≡◌, ℕ, suc, ◌+◌, ◌<◌, ◌≤◌, Bool, true, false, List, [], ◌∷◌, ◌++◌, map, length, take, get_or, refl, ap, sym, ◌∙◌, arith, subst}
use Rattle.std.specs.Prelude.{Option, Some, None, slice_get, ◌||◌, if◌then◌else◌}
use Rattle.std.specs.List.{list_any}
use Rattle.std.specs.Str.{bytes_eq}
use Rattle.std.proofs.lemmas.List.{take_more, length-map, length-take-le, map-append}
use Rattle.lotos_base.proofs.Bytes.{bytes_turned}
use Rattle.lotos_base.specs.Names.{folded}
use Rattle.lotos_base.specs.Signature.{Operation, Sort}
use Rattle.sort_terms.specs.Positions.{positions_from, positions_of}
use Rattle.sort_terms.specs.ReadingOutcome.{one_name}
use Rattle.sort_terms.proofs.PositionLemmas.{positions_of-append}
use Rattle.type_definitions.specs.Presentation.{first_position}
use Rattle.type_presentations.specs.PositionOfName.{position_of_name}
use Rattle.type_presentations.specs.declared.names.NamePositions.{NamePositions}
use Rattle.type_presentations.specs.NamesView.{HasNames}

-- ---- Tests of names.

-- ---- The first position.

-- where the name stands first, counted from a number on
abbrev from_number : ℕ → List (List ℕ) → List ℕ → Option ℕ
from_number first names name =
    if list_any (λ (n : List ℕ). one_name n name) names
    then Some (first + first_position (λ (n : List ℕ). one_name n name) names)
    else None

first_there : (first : ℕ) (name : List ℕ) (names : List (List ℕ))
    → slice_get (positions_from first (folded name) names) 0 ≡ from_number first names name
first_there first name [] = refl
first_there first name (n ∷ ns) = go (one_name n name) refl (bytes_turned (folded n) (folded name)) (first_there (suc first) name ns)
  where
    go : (b : Bool) → one_name n name ≡ b → one_name n name ≡ bytes_eq (folded name) (folded n)
        → slice_get (positions_from (suc first) (folded name) ns) 0 ≡ from_number (suc first) ns name
        → slice_get (positions_from first (folded name) (n ∷ ns)) 0 ≡ from_number first (n ∷ ns) name
    go true is turned rest =
        let test : bytes_eq (folded name) (folded n) ≡ true = sym turned ∙ is in
        let at : first ≡ first + 0 = omega arith in
        rw test (rw is (ap (λ (m : ℕ). Some m) at))
    go false is turned rest =
        let test : bytes_eq (folded name) (folded n) ≡ false = sym turned ∙ is in
        let further : suc first + first_position (λ (m : List ℕ). one_name m name) ns
        ≡ first + suc (first_position (λ (m : List ℕ). one_name m name) ns) = omega arith in
        rw test (rw is (rest ∙ ap (λ (m : ℕ). if list_any (λ (k : List ℕ). one_name k name) ns then Some m else None) further))

pub first_is : (positions : NamePositions) (name : List ℕ) (found : Option ℕ) (numbers : List ℕ) (names : List (List ℕ))
    → found ≡ slice_get numbers 0 → numbers ≡ positions_of (folded name) names → found ≡ position_of_name names name
first_is positions name found numbers names is are =
    let from_nothing : 0 + first_position (λ (n : List ℕ). one_name n name) names ≡ first_position (λ (n : List ℕ). one_name n name) names =
    omega arith in
    is ∙ ap (λ (ns : List ℕ). slice_get ns 0) are ∙ first_there 0 name names
    ∙ ap (λ (m : ℕ). if list_any (λ (n : List ℕ). one_name n name) names then Some m else None) from_nothing

-- one name more
pub one_more : (key name : List ℕ) (names : List (List ℕ)) (count : ℕ) (old new : List ℕ)
    → new ≡ old ++ (if bytes_eq key (folded name) then count ∷ [] else []) → old ≡ positions_of key names → length names ≡ count
    → new ≡ positions_of key (names ++ name ∷ [])
one_more key name names count old new is are many =
    is ∙ ap (λ (ns : List ℕ). ns ++ (if bytes_eq key (folded name) then count ∷ [] else [])) are
    ∙ ap (λ (n : ℕ). positions_of key names ++ (if bytes_eq key (folded name) then n ∷ [] else [])) (sym many)
    ∙ sym (positions_of-append key names name)

-- ---- Names of the members of a list.

pub any_mapped : {A : Type 0} (name_of : A → List ℕ) (name : List ℕ) (xs : List A)
    → list_any (λ (n : List ℕ). one_name n name) (map name_of xs) ≡ list_any (λ (x : A). one_name (name_of x) name) xs
any_mapped name_of name [] = refl
any_mapped name_of name (x ∷ xs) = ap (λ (b : Bool). one_name (name_of x) name || b) (any_mapped name_of name xs)

first_mapped : {A : Type 0} (name_of : A → List ℕ) (name : List ℕ) (xs : List A)
    → first_position (λ (n : List ℕ). one_name n name) (map name_of xs) ≡ first_position (λ (x : A). one_name (name_of x) name) xs
first_mapped name_of name [] = refl
first_mapped name_of name (x ∷ xs) = ap (λ (n : ℕ). if one_name (name_of x) name then 0 else suc n) (first_mapped name_of name xs)

-- whether a member has the name, and the first one that has it
pub record Named {A : Type 0} (name_of : A → List ℕ) (xs : List A) (name : List ℕ) (found : Option ℕ) : Type 0 where
  pub none : found ≡ None → list_any (λ (x : A). one_name (name_of x) name) xs ≡ false
  pub there : (n : ℕ) → found ≡ Some n → list_any (λ (x : A). one_name (name_of x) name) xs ≡ true
  pub first : (n : ℕ) → found ≡ Some n → first_position (λ (x : A). one_name (name_of x) name) xs ≡ n

named_by : (test : Bool) (m : ℕ) (found : Option ℕ) → found ≡ (if test then Some m else None)
    → (found ≡ None → test ≡ false) × ((n : ℕ) → found ≡ Some n → test ≡ true) × ((n : ℕ) → found ≡ Some n → m ≡ n)
named_by true m found is = (
  (λ none. let e : None ≡ Some m = sym none ∙ is in cc),
  (λ n some. refl),
  (λ n some. let e : Some n ≡ Some m = sym some ∙ is in cc),
)
named_by false m found is = (
  (λ none. refl),
  (λ n some. let e : Some n ≡ None = sym some ∙ is in cc),
  (λ n some. let e : Some n ≡ None = sym some ∙ is in cc),
)

pub named_of : {A : Type 0} (name_of : A → List ℕ) (xs : List A) (name : List ℕ) (found : Option ℕ)
    → found ≡ position_of_name (map name_of xs) name → Named name_of xs name found
named_of {A = A} name_of xs name found is =
    let here =
    named_by (list_any (λ (x : A). one_name (name_of x) name) xs) (first_position (λ (x : A). one_name (name_of x) name) xs) found
    (is ∙ ap (λ (b : Bool). if b then Some (first_position (λ (n : List ℕ). one_name n name) (map name_of xs)) else None)
    (any_mapped name_of name xs)
    ∙ ap (λ (m : ℕ). if list_any (λ (x : A). one_name (name_of x) name) xs then Some m else None) (first_mapped name_of name xs)) in
    record { none = here.0; there = here.1; first = here.2 }

-- ---- Names that come one after another.

-- the names of those that have come, and the next one
pub more_names : {A B : Type 0} (f : A → B) (name_of : B → List ℕ) (xs : List A) (n : ℕ) (x : A) (name : List ℕ) → n < length xs
    → x ≡ get_or xs n x → name ≡ name_of (f x)
    → map name_of (map f (take n xs)) ++ name ∷ [] ≡ map name_of (map f (take (n + 1) xs))
more_names {A = A} {B = B} f name_of xs n x name within is named =
    ap (λ (m : List ℕ). map name_of (map f (take n xs)) ++ m ∷ []) named
    ∙ sym (map-append name_of (map f (take n xs)) (f x ∷ []))
    ∙ ap (λ (ys : List B). map name_of ys) (sym (map-append f (take n xs) (x ∷ [])))
    ∙ ap (λ (ys : List A). map name_of (map f ys))
    (sym (take_more xs n x within ∙ ap (λ (y : A). take n xs ++ y ∷ []) (sym is)))

pub as_many_names : {A B : Type 0} (f : A → B) (name_of : B → List ℕ) (xs : List A) (n : ℕ) → n ≤ length xs
    → length (map name_of (map f (take n xs))) ≡ n
as_many_names f name_of xs n within =
    length-map (map f (take n xs)) name_of ∙ length-map (take n xs) f ∙ length-take-le n xs within

pub operations_named : (names : NamePositions) (os ps : List Operation) → os ≡ ps → HasNames names (map (λ o. o.name) os)
    → HasNames names (map (λ o. o.name) ps)
operations_named names os ps same has =
    subst (λ (us : List Operation). HasNames names (map (λ (o : Operation). o.name) us)) same has

pub sorts_named : (names : NamePositions) (ss ts : List Sort) → ss ≡ ts → HasNames names (map (λ s. s.name) ss)
    → HasNames names (map (λ s. s.name) ts)
sorts_named names ss ts same has = subst (λ (us : List Sort). HasNames names (map (λ (s : Sort). s.name) us)) same has
