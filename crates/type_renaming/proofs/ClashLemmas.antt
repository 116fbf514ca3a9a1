-- Clashes of images, member by member.
use Rattle.std.proofs.Common.{◌≡◌, ℕ, ◌+◌, ◌<◌, Bool, true, false, List, [], ◌∷◌, ◌++◌, map, length, take, drop, get_or, refl, ap, sym, ◌∙◌}
use Rattle.std.specs.Prelude.{Option, Some, None, ◌||◌, ◌&&◌, not, if◌then◌else◌}
use Rattle.std.specs.List.{list_any}
use Rattle.std.proofs.lemmas.Bool.{or_parts}
use Rattle.std.proofs.lemmas.List.{map-append, take-append-drop}
use Rattle.lotos_base.specs.Equation.{Place}
use Rattle.syntax_trees.specs.WrittenItem.{WrittenPair}
use Rattle.sort_terms.specs.WellFormedTest.{all_differ}
use Rattle.sort_terms.proofs.WellFormedLemmas.{earlier_differ}
use Rattle.type_presentations.proofs.KeptLemmas.{differ_and_one}
use Rattle.type_definitions.specs.TypeFault.{TypeFault}
use Rattle.type_definitions.specs.Renaming.{clash_at, clash_with, clash_among}
use Rattle.type_definitions.proofs.WalkLemmas.{AreOneByOne, next_of}

-- ---- Tests.

-- ---- A list that is walked from its front.

pub walks_on : {A B : Type 0} (same : A → A → Bool) (pair_of : A → Option WrittenPair) (kind : Place → List ℕ → TypeFault) (f : B → A)
    (xs : List B) (i : ℕ) (y : B) (x : A) → i < length xs → y ≡ get_or xs i y → same (f y) x ≡ false
    → clash_with same pair_of kind (map f (drop (i + 1) xs)) x ≡ clash_with same pair_of kind (map f (drop i xs)) x
walks_on {A = A} same pair_of kind f xs i y x within is other =
    sym (ap (λ (ys : List A). clash_with same pair_of kind ys x) (next_of f xs i y within is)
    ∙ ap (λ (b : Bool). if b then clash_at kind (pair_of x) (pair_of (f y)) else clash_with same pair_of kind (map f (drop (i + 1) xs)) x)
    other)

pub stops : {A B : Type 0} (same : A → A → Bool) (pair_of : A → Option WrittenPair) (kind : Place → List ℕ → TypeFault) (f : B → A)
    (xs : List B) (i : ℕ) (y : B) (x : A) (p : WrittenPair) → i < length xs → y ≡ get_or xs i y → same (f y) x ≡ true
    → pair_of x ≡ None → pair_of (f y) ≡ Some p → clash_with same pair_of kind (map f (drop i xs)) x ≡ Some (kind p.place p.given)
stops {A = A} same pair_of kind f xs i y x p within is one own given =
    ap (λ (ys : List A). clash_with same pair_of kind ys x) (next_of f xs i y within is)
    ∙ ap (λ (b : Bool). if b then clash_at kind (pair_of x) (pair_of (f y)) else clash_with same pair_of kind (map f (drop (i + 1) xs)) x)
    one
    ∙ ap (λ (o : Option WrittenPair). clash_at kind o (pair_of (f y))) own ∙ ap (λ (o : Option WrittenPair). clash_at kind None o) given

-- none of the rest passes a test
pub none_further : {A B : Type 0} (test : A → Bool) (f : B → A) (xs : List B) (i : ℕ) (y : B) → i < length xs → y ≡ get_or xs i y
    → list_any test (map f (drop i xs)) ≡ false → (test (f y) ≡ false) × (list_any test (map f (drop (i + 1) xs)) ≡ false)
none_further {A = A} test f xs i y within is none =
    or_parts (test (f y)) (list_any test (map f (drop (i + 1) xs)))
    (sym (ap (λ (ys : List A). list_any test ys) (next_of f xs i y within is)) ∙ none)

-- ---- A member behind earlier ones.

-- none of them has its image
pub no_clash : {A : Type 0} (same : A → A → Bool) (pair_of : A → Option WrittenPair) (kind : Place → List ℕ → TypeFault) (ys : List A)
    (x : A) → list_any (λ (y : A). same y x) ys ≡ false → clash_with same pair_of kind ys x ≡ None
no_clash same pair_of kind [] x none = refl
no_clash {A = A} same pair_of kind (y ∷ ys) x none =
    let parts = or_parts (same y x) (list_any (λ (z : A). same z x) ys) none in
    ap (λ (b : Bool). if b then clash_at kind (pair_of x) (pair_of y) else clash_with same pair_of kind ys x) parts.0
    ∙ no_clash same pair_of kind ys x parts.1

-- one of them has, and the member has a pair
pub own_clash : {A : Type 0} (same : A → A → Bool) (pair_of : A → Option WrittenPair) (kind : Place → List ℕ → TypeFault) (ys : List A)
    (x : A) (p : WrittenPair) → pair_of x ≡ Some p → list_any (λ (y : A). same y x) ys ≡ true
    → clash_with same pair_of kind ys x ≡ Some (kind p.place p.given)
own_clash same pair_of kind [] x p own some = let h : false ≡ true = some in cc
own_clash {A = A} same pair_of kind (y ∷ ys) x p own some = go (same y x) some (own_clash same pair_of kind ys x p own)
  where
    go : (b : Bool) → (b || list_any (λ (z : A). same z x) ys) ≡ true
        → (list_any (λ (z : A). same z x) ys ≡ true → clash_with same pair_of kind ys x ≡ Some (kind p.place p.given))
        → (if b then clash_at kind (pair_of x) (pair_of y) else clash_with same pair_of kind ys x) ≡ Some (kind p.place p.given)
    go true there rest = ap (λ (o : Option WrittenPair). clash_at kind o (pair_of y)) own
    go false there rest = rest there

-- one of them has, and of those without pairs none
pub is_told : {A : Type 0} (same plain : A → A → Bool) (pair_of : A → Option WrittenPair) (kind : Place → List ℕ → TypeFault) (ys : List A)
    (x : A) → ((y : A) → pair_of y ≡ None → same y x ≡ true → plain x y ≡ true) → list_any (λ (y : A). same y x) ys ≡ true
    → list_any (plain x) ys ≡ false → clash_with same pair_of kind ys x ≡ None → ⊥
is_told same plain pair_of kind [] x alike some apart none = let h : false ≡ true = some in cc
is_told {A = A} same plain pair_of kind (y ∷ ys) x alike some apart none =
    let parts = or_parts (plain x y) (list_any (plain x) ys) apart in
    go (same y x) refl some none parts.0 (λ there left. is_told same plain pair_of kind ys x alike there parts.1 left)
  where
    both : true ≡ false → ⊥
    both e = cc

    at_pair : (own earlier : Option WrittenPair) → (earlier ≡ None → plain x y ≡ true) → plain x y ≡ false
        → clash_at kind own earlier ≡ None → ⊥
    at_pair (Some p) earlier alone other e = let h : Some (kind p.place p.given) ≡ None = e in cc
    at_pair None (Some p) alone other e = let h : Some (kind p.place p.given) ≡ None = e in cc
    at_pair None None alone other e = both (sym (alone refl) ∙ other)

    go : (b : Bool) → same y x ≡ b → (b || list_any (λ (z : A). same z x) ys) ≡ true
        → (if b then clash_at kind (pair_of x) (pair_of y) else clash_with same pair_of kind ys x) ≡ None → plain x y ≡ false
        → (list_any (λ (z : A). same z x) ys ≡ true → clash_with same pair_of kind ys x ≡ None → ⊥) → ⊥
    go true is there told other rest = at_pair (pair_of x) (pair_of y) (λ none. alike y none is) other told
    go false is there told other rest = rest there told

pub one_by_one : {A : Type 0} (same : A → A → Bool) (pair_of : A → Option WrittenPair) (kind : Place → List ℕ → TypeFault)
    → AreOneByOne (λ (earlier : List A) (x : A). clash_with same pair_of kind earlier x)
    (λ (earlier xs : List A). clash_among same pair_of kind earlier xs)
one_by_one same pair_of kind = ((λ earlier. refl), (λ earlier x xs. refl))

-- ---- Lists whose members differ.

-- whether one more member is a second one
pub second_is : {A : Type 0} (clash : A → A → Bool) → ((x y : A) → clash x y ≡ clash y x) → (xs : List A) (x : A) (b : Bool)
    → all_differ clash xs ≡ true → not (all_differ clash (xs ++ x ∷ [])) ≡ b → list_any (clash x) xs ≡ b
second_is clash turned xs x b apart is =
    sym (twice (list_any (clash x) xs) (all_differ clash xs) apart)
    ∙ ap not (sym (differ_and_one clash turned xs x)) ∙ is
  where
    twice : (a c : Bool) → c ≡ true → not (not a && c) ≡ a
    twice true c e = refl
    twice false c e = ap not e

-- the test of images, from either side
pub from_either_side : {A : Type 0} (clash : A → A → Bool) → ((x y : A) → clash x y ≡ clash y x) → (image : A → A) (ys : List A) (x : A)
    → list_any (λ (y : A). clash (image y) (image x)) ys ≡ list_any (clash (image x)) (map image ys)
from_either_side clash turned image [] x = refl
from_either_side {A = A} clash turned image (y ∷ ys) x =
    ap (λ (b : Bool). b || list_any (λ (z : A). clash (image z) (image x)) ys) (turned (image y) (image x))
    ∙ ap (λ (b : Bool). clash (image x) (image y) || b) (from_either_side clash turned image ys x)

-- a member of a list differs from those before it
pub differs_from_earlier : {A B : Type 0} (clash : A → A → Bool) → ((x y : A) → clash x y ≡ clash y x) → (f : B → A) (xs : List B) (i : ℕ)
    (x : B) → i < length xs → x ≡ get_or xs i x → all_differ clash (map f xs) ≡ true → list_any (clash (f x)) (map f (take i xs)) ≡ false
differs_from_earlier {A = A} {B = B} clash turned f xs i x within is apart =
    earlier_differ clash turned (map f (take i xs)) (f x) (map f (drop (i + 1) xs))
    (ap (λ (ys : List A). all_differ clash (map f (take i xs) ++ ys)) (sym (next_of f xs i x within is))
    ∙ ap (λ (ys : List A). all_differ clash ys) (sym (map-append f (take i xs) (drop i xs)))
    ∙ ap (λ (ys : List B). all_differ clash (map f ys)) (take-append-drop i xs) ∙ apart)
