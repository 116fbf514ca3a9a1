-- Presentations that are made part by part: how much is in them, and what is so of their signatures.
use Rattle.std.proofs.Common.{◌≡◌, ℕ, zero, suc, ◌<◌, ◌≤◌, min, Bool, true, false, List, [], ◌∷◌, map, length, take, get_or, refl, ap, ◌∙◌, arith}
use Rattle.std.specs.Prelude.{Option, Some, None, slice_get, ◌||◌, nat_lt}
use Rattle.std.specs.List.{list_all}
use Rattle.std.specs.Option.{option_map}
use Rattle.std.proofs.lemmas.Bool.{le-ltb, and_parts}
use Rattle.std.proofs.lemmas.List.{length-map, length-take}
use Rattle.std.proofs.lemmas.Option.{slice_get-map}
use Rattle.std.specs.declared.rc.Rc.{Rc}
use Rattle.std.specs.declared.alloc.Global.{Global}
use Rattle.lotos_base.specs.Signature.{Signature, Sort, Operation}
use Rattle.syntax_trees.specs.WrittenItem.{WrittenPair, WrittenPairs}
use Rattle.sort_terms.specs.Operations.{operation_of}
use Rattle.sort_terms.specs.declared.operations.Op.{Op}
use Rattle.sort_terms.specs.WellFormedTest.{has_known_sorts}
use Rattle.type_definitions.specs.Presentation.{Presentation, is_too_large, presentation_limit}
use Rattle.type_definitions.specs.Renaming.{pair_for, operation_under, renamed_sort, renamed_operation, renamed_presentation}
use Rattle.type_presentations.proofs.SizeLemmas.{within_limits}
use Rattle.type_renaming.specs.Parts.{KeepsProfilesOf, sorts_alone, with_these_operations}

-- the operation behind a shared one
abbrev pub shared : Rc Op Global → Operation
shared op = operation_of op.value

-- a presentation without operations
pub with_no_operations : (p : Presentation) → p.signature.operations ≡ [] → p ≡ with_these_operations p []
with_no_operations p none = ap (λ (os : List Operation). with_these_operations p os) none

-- ---- Sizes.

none_beyond : (limit a b c : ℕ) → a ≤ limit → b ≤ limit → c ≤ limit → (nat_lt limit a || (nat_lt limit b || nat_lt limit c)) ≡ false
none_beyond limit a b c e f g =
    ap (λ (t : Bool). t || (nat_lt limit b || nat_lt limit c)) (le-ltb limit a e)
    ∙ ap (λ (t : Bool). t || nat_lt limit c) (le-ltb limit b f) ∙ le-ltb limit c g

pub is_small : (p : Presentation) → length p.signature.sorts ≤ presentation_limit → length p.signature.operations ≤ presentation_limit
    → length p.equations ≤ presentation_limit → is_too_large p ≡ false
is_small p sorts operations equations =
    none_beyond presentation_limit (length p.signature.sorts) (length p.signature.operations)
    (length p.equations) sorts operations equations

nothing_beyond : (limit n : ℕ) → n ≡ 0 → n ≤ limit
nothing_beyond limit n e = omega (arith, e)

pub at_most : (n m limit : ℕ) → n ≡ m → m ≤ limit → n ≤ limit
at_most n m limit e h = omega (arith, e, h)

-- images of some of a list are no more than it
images_at_most : {A B C : Type 0} (g : B → C) (f : A → B) (xs : List A) (n limit : ℕ) → length xs ≤ limit
    → length (map g (map f (take n xs))) ≤ limit
images_at_most g f xs n limit few =
    let mapped : length (map g (map f (take n xs))) ≡ length (take n xs) = length-map (map f (take n xs)) g ∙ length-map (take n xs) f in
    let taken : length (take n xs) ≡ min n (length xs) = length-take n xs in
    omega (arith, mapped, taken, few)

pub sorts_are_few : {A : Type 0} (type_name : List ℕ) (pairs : WrittenPairs) (f : A → Sort) (xs : List A) (n : ℕ)
    → length xs ≤ presentation_limit → is_too_large (renamed_presentation (sorts_alone (map f (take n xs))) type_name pairs) ≡ false
sorts_are_few type_name pairs f xs n few =
    is_small (renamed_presentation (sorts_alone (map f (take n xs))) type_name pairs)
    (images_at_most (renamed_sort type_name pairs) f xs n presentation_limit few) (nothing_beyond presentation_limit 0 refl)
    (nothing_beyond presentation_limit 0 refl)

pub operations_are_few : {A : Type 0} (type_name : List ℕ) (pairs : WrittenPairs) (p : Presentation) (f : A → Operation) (xs : List A)
    (n : ℕ) → is_too_large p ≡ false → length xs ≤ presentation_limit
    → is_too_large (with_these_operations p (map (renamed_operation type_name pairs) (map f (take n xs)))) ≡ false
operations_are_few type_name pairs p f xs n within few =
    is_small (with_these_operations p (map (renamed_operation type_name pairs) (map f (take n xs)))) (within_limits p within).sorts
    (images_at_most (renamed_operation type_name pairs) f xs n presentation_limit few) (within_limits p within).equations

-- a presentation with as much in it
pub as_large : (p q : Presentation) → length q.signature.sorts ≡ length p.signature.sorts
    → length q.signature.operations ≡ length p.signature.operations → length q.equations ≡ length p.equations
    → is_too_large p ≡ false → is_too_large q ≡ false
as_large p q sorts operations equations within =
    let small = within_limits p within in
    is_small q (at_most (length q.signature.sorts) (length p.signature.sorts) presentation_limit sorts small.sorts)
    (at_most (length q.signature.operations) (length p.signature.operations) presentation_limit operations small.operations)
    (at_most (length q.equations) (length p.equations) presentation_limit equations small.equations)

-- ---- Operations over sorts.

-- so is each member of such a list
pub member_is_known : {A : Type 0} (bound : ℕ) (f : A → Operation) (xs : List A) (i : ℕ) (x : A) → i < length xs → x ≡ get_or xs i x
    → list_all (has_known_sorts bound) (map f xs) ≡ true → has_known_sorts bound (f x) ≡ true
member_is_known bound f [] i x within is known = absurd (omega (arith, within))
member_is_known {A = A} bound f (y ∷ ys) zero x within is known =
    ap (λ (z : A). has_known_sorts bound (f z)) is ∙ (and_parts (has_known_sorts bound (f y)) (list_all (has_known_sorts bound)
    (map f ys)) known).0
member_is_known bound f (y ∷ ys) (suc i) x within is known =
    member_is_known bound f ys i x (omega (arith, within)) is
    (and_parts (has_known_sorts bound (f y)) (list_all (has_known_sorts bound) (map f ys)) known).1

-- the image of an operation has its sorts
arguments_stay : (type_name : List ℕ) (p : Option WrittenPair) (o : Operation) → (operation_under type_name p o).arguments ≡ o.arguments
arguments_stay type_name None o = refl
arguments_stay type_name (Some p) o = refl

result_stays : (type_name : List ℕ) (p : Option WrittenPair) (o : Operation) → (operation_under type_name p o).result ≡ o.result
result_stays type_name None o = refl
result_stays type_name (Some p) o = refl

pub image_is_known : (bound : ℕ) (type_name : List ℕ) (pairs : WrittenPairs) (o : Operation)
    → has_known_sorts bound (renamed_operation type_name pairs o) ≡ has_known_sorts bound o
image_is_known bound type_name pairs o = go (pair_for pairs.operation_pairs o.name)
  where
    go : (p : Option WrittenPair) → has_known_sorts bound (operation_under type_name p o) ≡ has_known_sorts bound o
    go None = refl
    go (Some p) = refl

-- a signature with as many sorts and the images of the operations keeps the profiles
pub images_keep_profiles : (u : List ℕ) (qs : WrittenPairs) (old new : Signature) → length new.sorts ≡ length old.sorts
    → new.operations ≡ map (renamed_operation u qs) old.operations → KeepsProfilesOf old new
images_keep_profiles u qs old new sorts operations = record {
  sorts = sorts;
  operations = λ f o at. (
    renamed_operation u qs o,
    ap (λ (os : List Operation). slice_get os f) operations ∙ slice_get-map (renamed_operation u qs) old.operations f
        ∙ ap (λ (p : Option Operation). option_map (renamed_operation u qs) p) at,
    arguments_stay u (pair_for qs.operation_pairs o.name) o,
    result_stays u (pair_for qs.operation_pairs o.name) o,
  );
}
