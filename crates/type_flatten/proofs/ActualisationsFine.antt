-- Actualisations without a fault: what comes in and clashes with nothing leaves the members different.
use Rattle.std.proofs.Common.{◌≡◌, ℕ, Bool, true, false, List, [], ◌∷◌, ◌++◌, map, refl, ap, sym, ◌∙◌}
use Rattle.std.specs.Prelude.{None, ◌||◌, ◌&&◌, not, if◌then◌else◌}
use Rattle.std.specs.List.{list_any}
use Rattle.std.proofs.lemmas.List.Folds.{list_any-append}
use Rattle.std.proofs.lemmas.Bool.{or_right, or_left, false_from_ne_true, both_ways}
use Rattle.lotos_base.proofs.Tests.{list_any-weaker}
use Rattle.lotos_base.specs.Equation.{Place}
use Rattle.lotos_base.specs.Signature.{Sort, Operation}
use Rattle.sort_terms.specs.ReadingOutcome.{one_name}
use Rattle.sort_terms.specs.WellFormedTest.{all_differ, are_one_sort, are_one_operation}
use Rattle.type_definitions.specs.TypeFault.{TypeFault, double_sort, double_operation, fault_if}
use Rattle.type_definitions.specs.Presentation.{with_new, is_same_sort, is_same_operation}
use Rattle.type_definitions.specs.Actualisation.{Actualising, actualisation, other_sorts_of, other_operations_of, other_sort_image, other_operation_image, sort_renamer, operation_renamer}
use Rattle.type_definitions.specs.ActualisationFaults.{Coming, there_already, coming_clash, coming_at, coming_sorts, coming_operations, sorts_clash, operations_clash, made_by_two, actualising_fault}
use Rattle.type_definitions.proofs.FaultLemmas.{none_first, not_past}
use Rattle.type_presentations.proofs.AddedLemmas.{by_name, by_profile}
use Rattle.type_presentations.proofs.KeptLemmas.{differ_and_one}
use Rattle.type_presentations.proofs.KeyedLemmas.{mutual_by_key}
use Rattle.type_presentations.proofs.SignatureLemmas.{sorts_differ, operations_differ}
use Rattle.type_actualisation.proofs.DataLemmas.{actualised_data}
use Rattle.type_actualisation.specs.ActualisationLaws.{HasActuals}
use Rattle.type_flatten.specs.FlattenedData.{IsFine}

-- ---- Tests over lists.

any_mapped : {A B : Type 0} (test : B → Bool) (f : A → B) (xs : List A)
    → list_any test (map f xs) ≡ list_any (λ (x : A). test (f x)) xs
any_mapped test f [] = refl
any_mapped test f (x ∷ xs) = ap (λ (b : Bool). test (f x) || b) (any_mapped test f xs)

-- a test that holds somewhere, and another one nowhere: there is a member for which only the first holds
one_alone : {A : Type 0} (test other : A → Bool) (xs : List A) → list_any test xs ≡ true → list_any other xs ≡ false
    → list_any (λ (x : A). test x && not (other x)) xs ≡ true
one_alone test other [] some none = let e : false ≡ true = some in cc
one_alone {A = A} test other (x ∷ xs) some none = go (test x) (other x) (one_alone test other xs) some none
  where
    go : (b c : Bool)
        → (list_any test xs ≡ true → list_any other xs ≡ false → list_any (λ (y : A). test y && not (other y)) xs ≡ true)
        → (b || list_any test xs) ≡ true → (c || list_any other xs) ≡ false
        → ((b && not c) || list_any (λ (y : A). test y && not (other y)) xs) ≡ true
    go b true rest some none = let e : true ≡ false = none in cc
    go true false rest some none = refl
    go false false rest some none = rest some none

not_and : (b c : Bool) → b ≡ false → c ≡ true → (not b && c) ≡ true
not_and true c one other = let e : true ≡ false = one in cc
not_and false c one other = other

-- ---- Members that come in.

-- whatever is so of a member that was kept is so of the image of one that came
abbrev AreAmong : {A : Type 0} → List A → List (Coming A) → Type 0
AreAmong {A} kept earlier = (test : A → Bool) → list_any test kept ≡ true → list_any (λ (c : Coming A). test c.image) earlier ≡ true

-- members that do not clash and are one are the same
abbrev TellsApart : (A : Type 0) → (A → A → Bool) → (A → A → Bool) → (Coming A → Coming A → Bool) → Type 0
TellsApart A one same clash =
    (x y : Coming A) → (one x.image y.image && not (same x.image y.image)) ≡ true → clash x y ≡ true

-- one that clashes with none and is not there is none of those that are there
no_one : {A : Type 0} (one same : A → A → Bool) (clash : Coming A → Coming A → Bool) → TellsApart A one same clash
    → (kept : List A) (earlier : List (Coming A)) (x : Coming A) → AreAmong kept earlier → list_any (clash x) earlier ≡ false
    → list_any (same x.image) kept ≡ false → list_any (one x.image) kept ≡ false
no_one {A = A} one same clash apart kept earlier x among none new =
    false_from_ne_true (list_any (one x.image) kept)
    (λ h.
    both_ways (list_any (clash x) earlier) none
    (list_any-weaker (λ (c : Coming A). one x.image c.image && not (same x.image c.image)) (clash x) (λ c both. apart x c both) earlier
    (among (λ (y : A). one x.image y && not (same x.image y)) (one_alone (one x.image) (same x.image) kept h new))))

still_among : {A : Type 0} (kept : List A) (earlier : List (Coming A)) (x : Coming A) → AreAmong kept earlier
    → AreAmong kept (earlier ++ x ∷ [])
still_among {A = A} kept earlier x among test h =
    list_any-append (λ (c : Coming A). test c.image) earlier (x ∷ [])
    ∙ or_left (list_any (λ (c : Coming A). test c.image) earlier) (test x.image || false) (among test h)

one_among : {A : Type 0} (kept : List A) (earlier : List (Coming A)) (x : Coming A) → AreAmong kept earlier
    → AreAmong (kept ++ x.image ∷ []) (earlier ++ x ∷ [])
one_among {A = A} kept earlier x among test h =
    list_any-append (λ (c : Coming A). test c.image) earlier (x ∷ [])
    ∙ go (list_any test kept) refl (sym (list_any-append test kept (x.image ∷ [])) ∙ h)
  where
    go : (b : Bool) → list_any test kept ≡ b → (b || (test x.image || false)) ≡ true
        → (list_any (λ (c : Coming A). test c.image) earlier || (test x.image || false)) ≡ true
    go true is h = or_left (list_any (λ (c : Coming A). test c.image) earlier) (test x.image || false) (among test is)
    go false is h = or_right (list_any (λ (c : Coming A). test c.image) earlier) (test x.image || false) h

-- so all that is kept stays different
stay_different : {A : Type 0} (a : Actualising) (one same : A → A → Bool) (clash : Coming A → Coming A → Bool)
    (kind : Place → List ℕ → TypeFault) → ((x y : A) → one x y ≡ one y x) → TellsApart A one same clash → (kept : List A)
    (earlier coming : List (Coming A)) → AreAmong kept earlier → all_differ one kept ≡ true
    → coming_clash a clash kind earlier coming ≡ None
    → all_differ one (with_new same kept (map (λ (c : Coming A). c.image) coming)) ≡ true
stay_different a one same clash kind turned apart kept earlier [] among differ none = differ
stay_different {A = A} a one same clash kind turned apart kept earlier (x ∷ xs) among differ none =
    let parts = none_first (fault_if (list_any (clash x) earlier) (coming_at a kind x)) (coming_clash a clash kind (earlier ++ x ∷ []) xs)
    none in
    go (not_past (list_any (clash x) earlier) (coming_at a kind x) parts.0)
    (λ (next : List A) (are : AreAmong next (earlier ++ x ∷ [])) (still : all_differ one next ≡ true).
    stay_different a one same clash kind turned apart next (earlier ++ x ∷ []) xs are still parts.1)
    (list_any (same x.image) kept) refl
  where
    go : list_any (clash x) earlier ≡ false
        → ((next : List A) → AreAmong next (earlier ++ x ∷ []) → all_differ one next ≡ true
        → all_differ one (with_new same next (map (λ (c : Coming A). c.image) xs)) ≡ true)
        → (b : Bool) → list_any (same x.image) kept ≡ b
        → all_differ one (with_new same (if b then kept else kept ++ x.image ∷ []) (map (λ (c : Coming A). c.image) xs)) ≡ true
    go apart_from rest true is = rest kept (still_among kept earlier x among) differ
    go apart_from rest false is =
        rest (kept ++ x.image ∷ []) (one_among kept earlier x among)
        (differ_and_one one turned kept x.image
        ∙ not_and (list_any (one x.image) kept) (all_differ one kept)
        (no_one one same clash apart kept earlier x among apart_from is) differ)

-- ---- Sorts and operations.

apart_or_made : (alike origin made : Bool) → (alike && not (alike && origin)) ≡ true → (alike && (not origin || made)) ≡ true
apart_or_made true true made h = let e : false ≡ true = h in cc
apart_or_made true false made h = refl
apart_or_made false origin made h = h

sorts_apart : TellsApart Sort are_one_sort is_same_sort sorts_clash
sorts_apart x y h =
    apart_or_made (are_one_sort x.image y.image) (one_name x.image.origin y.image.origin) (made_by_two x.pair y.pair) h

operations_apart : TellsApart Operation are_one_operation is_same_operation operations_clash
operations_apart x y h =
    apart_or_made (are_one_operation x.image y.image) (one_name x.image.origin y.image.origin) (made_by_two x.pair y.pair) h

mapped_twice : {A B : Type 0} (f : A → Coming B) (xs : List A)
    → map (λ (c : Coming B). c.image) (map f xs) ≡ map (λ (x : A). (f x).image) xs
mapped_twice f [] = refl
mapped_twice {B = B} f (x ∷ xs) = ap (λ (ys : List B). (f x).image ∷ ys) (mapped_twice f xs)

there_among : {A : Type 0} (xs : List A) → AreAmong xs (map there_already xs)
there_among {A = A} xs test h = any_mapped (λ (c : Coming A). test c.image) there_already xs ∙ h

abbrev coming_sort : Actualising → Sort → Coming Sort
coming_sort a s = record { image = other_sort_image a s; pair = sort_renamer a s }

abbrev coming_operation : Actualising → Operation → Coming Operation
coming_operation a o = record { image = other_operation_image a o; pair = operation_renamer a o }

actualised_sorts_differ : (a : Actualising) → IsFine a.actual
    → coming_clash a sorts_clash double_sort (map there_already a.actual.signature.sorts) (coming_sorts a) ≡ None
    → all_differ are_one_sort (actualisation a).signature.sorts ≡ true
actualised_sorts_differ a fine none =
    ap (λ (ss : List Sort). all_differ are_one_sort (with_new is_same_sort a.actual.signature.sorts ss))
    (sym (mapped_twice (coming_sort a) (other_sorts_of a.base.presentation)))
    ∙ stay_different a are_one_sort is_same_sort sorts_clash double_sort (mutual_by_key by_name.key by_name.same by_name.tell) sorts_apart
    a.actual.signature.sorts (map there_already a.actual.signature.sorts) (coming_sorts a) (there_among a.actual.signature.sorts)
    (sorts_differ a.actual.signature fine.signature) none

actualised_operations_differ : (a : Actualising) → IsFine a.actual
    → coming_clash a operations_clash double_operation (map there_already a.actual.signature.operations) (coming_operations a) ≡ None
    → all_differ are_one_operation (actualisation a).signature.operations ≡ true
actualised_operations_differ a fine none =
    ap (λ (os : List Operation). all_differ are_one_operation (with_new is_same_operation a.actual.signature.operations os))
    (sym (mapped_twice (coming_operation a) (other_operations_of a.base.presentation)))
    ∙ stay_different a are_one_operation is_same_operation operations_clash double_operation
    (mutual_by_key by_profile.key by_profile.same by_profile.tell) operations_apart a.actual.signature.operations
    (map there_already a.actual.signature.operations) (coming_operations a) (there_among a.actual.signature.operations)
    (operations_differ a.actual.signature fine.signature) none

-- ---- The whole.

-- what no fault says of an actualisation
record IsFaultless (a : Actualising) : Type 0 where
  pub actuals : HasActuals a
  pub sorts : coming_clash a sorts_clash double_sort (map there_already a.actual.signature.sorts) (coming_sorts a) ≡ None
  pub operations :
      coming_clash a operations_clash double_operation (map there_already a.actual.signature.operations) (coming_operations a) ≡ None

faultless : (a : Actualising) → actualising_fault a ≡ None → IsFaultless a
faultless a none =
    let one = none_first _ _ none in
    let two = none_first _ _ one.1 in
    let three = none_first _ _ two.1 in
    let four = none_first _ _ three.1 in
    let five = none_first _ _ four.1 in
    let six = none_first _ _ five.1 in record {
      actuals = record { sorts = three.0; operations = four.0 };
      sorts = five.0;
      operations = six.0;
    }

pub actualisation_fine : (a : Actualising) → IsFine a.base.presentation → IsFine a.actual → actualising_fault a ≡ None
    → IsFine (actualisation a)
actualisation_fine a base actual none =
    let is = faultless a none in
    actualised_data a is.actuals base actual (actualised_sorts_differ a actual is.sorts)
    (actualised_operations_differ a actual is.operations)
