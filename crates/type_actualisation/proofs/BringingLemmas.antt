-- What came into the actual types, and what is left to bring.
use Rattle.std.proofs.Common.{◌≡◌, ℕ, suc, ◌+◌, ◌<◌, ◌≤◌, Bool, true, false, List, [], ◌∷◌, map, length, refl, ap, sym, ◌∙◌, subst, arith}
use Rattle.std.specs.Prelude.{Option, Some, None, ◌^◌, ◌||◌, nat_lt}
use Rattle.std.proofs.lemmas.Bool.{ltb-true}
use Rattle.lotos_base.specs.WrittenTerm.{PlacedName}
use Rattle.lotos_base.specs.Signature.{Sort, Operation}
use Rattle.lotos_base.specs.Equation.{IsWellFormedData}
use Rattle.sort_terms.specs.WellFormedTest.{all_differ, are_one_operation, are_one_sort}
use Rattle.type_definitions.specs.FaultView.{HoldsOfFault, IsFaultFound}
use Rattle.type_definitions.specs.declared.type_faults.TypeFault.{TypeFault as CodeFault}
use Rattle.type_definitions.proofs.HoldsLemmas.{holds_weaker}
use Rattle.type_definitions.specs.TypeFault.{TypeFault, double_operation, double_sort, fault_if, first_fault, too_large}
use Rattle.type_definitions.specs.Presentation.{Presentation as PlainPresentation, is_same_operation, is_same_sort, is_too_large, presentation_limit, with_new}
use Rattle.type_definitions.specs.Actualisation.{Actualising, actual_operation, actual_sort, actualisation, actualised_equations, actualised_operations, actualised_sorts, formal_operations_of, formal_sorts_of, other_operation_image, operation_renamer, other_operations_of, other_sort_image, other_sorts_of, sort_renamer}
use Rattle.type_definitions.specs.ActualisationFaults.{Coming, coming_at, coming_clash, coming_fault, coming_operations, coming_sorts, coming_too_many, formal_operation_fault, formal_sort_fault, operations_clash, there_already}
use Rattle.type_definitions.specs.Flattened.{flattened_data_of}
use Rattle.type_presentations.specs.OperationListView.{HasOperationKeys, OperationList, operations_in}
use Rattle.type_presentations.specs.SortListView.{HasSortKeys, SortList, sorts_in}
use Rattle.type_presentations.specs.EquationListView.{HasEquationKeys, HaveSidesOf, equations_in}
use Rattle.type_presentations.specs.declared.equation_list.EquationList.{EquationList}
use Rattle.type_definitions.specs.ProfiledImage.{number_in}
use Rattle.type_definitions.proofs.FaultLemmas.{not_past, none_first}
use Rattle.type_presentations.specs.MarksView.{IsKnown, marks_in}
use Rattle.type_presentations.specs.PresentationView.{IsSound, IsWithinLimits, presentation_of}
use Rattle.type_presentations.specs.declared.presentations.Presentation.{Presentation}
use Rattle.type_renaming.specs.Actuals.{AreActualOperations, AreActualSorts, actuals_from}
use Rattle.type_actualisation.specs.Brought.{IsBrought}
use Rattle.type_renaming.specs.CameView.{place_kept}
use Rattle.type_renaming.specs.FaultPlaces.{fault_at}
use Rattle.type_renaming.specs.SourceView.{AreOperationsComing, AreSortsComing}
use Rattle.type_renaming.specs.declared.came.Came.{Came}
use Rattle.type_renaming.specs.declared.source.Source.{Source}
use Rattle.type_actualisation.specs.Parts.{HasBroughtOperations, HasBroughtSorts, HasOperationParts, HasParts, HasSortParts, HaveCome, IsBroughtIn, IsComingFault, HasBroughtRest, IsFaultBehindPairs, IsFormalOperationFault, IsFormalSortFault, fault_behind_pairs, fault_kept}
use Rattle.type_actualisation.proofs.FaultLemmas.{found_first, found_later, found_same, later_is, none_at, operation_twice, sort_twice, too_much}

-- ---- Numbers.

below : (n limit big : ℕ) → n ≤ limit → limit < big → n < big
below n limit big most less = omega arith

twice_below : (m n limit big : ℕ) → m ≤ limit → n ≤ limit → limit + limit < big → m + n ≤ big
twice_below m n limit big one other less = omega arith

pub few_enough : (n : ℕ) → n ≤ presentation_limit → n < 2 ^ 32
few_enough n most = below n presentation_limit (2 ^ 32) most (ltb-true presentation_limit (2 ^ 32) refl)

pub both_few : (m n : ℕ) → m ≤ presentation_limit → n ≤ presentation_limit → m + n ≤ 2 ^ 32
both_few m n one other =
    twice_below m n presentation_limit (2 ^ 32) one other (ltb-true (presentation_limit + presentation_limit) (2 ^ 32) refl)

-- ---- Sorts and operations, with the actual ones of the formal ones.

as_many : {A : Type 0} (marks : List ℕ) (actual : A → ℕ) (n : ℕ) (xs : List A) → length (actuals_from marks actual n xs) ≡ length xs
as_many marks actual n [] = refl
as_many marks actual n (x ∷ xs) = ap (λ (m : ℕ). suc m) (as_many marks actual (suc n) xs)

base_sorts : (a : Actualising) (base : Presentation) (list : SortList) (source : Source) → HasSortParts a base list source
    → a.base.presentation.signature.sorts ≡ sorts_in base.sorts
base_sorts a base list source parts = ap (λ (p : PlainPresentation). p.signature.sorts) parts.base_is.presentation_is

base_operations : (a : Actualising) (base : Presentation) (list : OperationList) (source : Source) (sorts : List ℕ)
    → HasOperationParts a base list source sorts → a.base.presentation.signature.operations ≡ operations_in base.ops
base_operations a base list source sorts parts =
    ap (λ (p : PlainPresentation). p.signature.operations) parts.base_is.presentation_is

pub as_many_sorts : (a : Actualising) (base : Presentation) (list : SortList) (source : Source) (numbers slice : List (Option ℕ))
    → HasSortParts a base list source → slice ≡ numbers → AreActualSorts a numbers → length slice ≡ length (sorts_in base.sorts)
as_many_sorts a base list source numbers slice parts same are =
    ap (λ (os : List (Option ℕ)). length os) (same ∙ are.are)
    ∙ as_many a.base.presentation.formal_sorts (actual_sort a) 0 a.base.presentation.signature.sorts
    ∙ ap (λ (ss : List Sort). length ss) (base_sorts a base list source parts)

pub as_many_operations : (a : Actualising) (base : Presentation) (list : OperationList) (source : Source) (sorts : List ℕ)
    (numbers slice : List (Option ℕ)) → HasOperationParts a base list source sorts → slice ≡ numbers → AreActualOperations a numbers
    → length slice ≡ length (operations_in base.ops)
as_many_operations a base list source sorts numbers slice parts same are =
    ap (λ (os : List (Option ℕ)). length os) (same ∙ are.are)
    ∙ as_many a.base.presentation.formal_operations (actual_operation a) 0 a.base.presentation.signature.operations
    ∙ ap (λ (os : List Operation). length os) (base_operations a base list source sorts parts)

pub sorts_coming : (a : Actualising) (base : Presentation) (list : SortList) (source : Source) (numbers slice : List (Option ℕ))
    → HasSortParts a base list source → slice ≡ numbers → AreActualSorts a numbers
    → AreSortsComing a source (sorts_in list) (sorts_in base.sorts) slice
sorts_coming a base list source numbers slice parts same are = record {
  source_is = parts.source_is;
  there_are = parts.there_are;
  coming_are = base_sorts a base list source parts;
  actuals_are =
      same ∙ are.are
      ∙ ap (λ (ss : List Sort). actuals_from a.base.presentation.formal_sorts (actual_sort a) 0 ss) (base_sorts a base list source parts);
}

pub operations_coming : (a : Actualising) (base : Presentation) (list : OperationList) (source : Source) (sorts : List ℕ)
    (numbers slice : List (Option ℕ)) → HasOperationParts a base list source sorts → slice ≡ numbers → AreActualOperations a numbers
    → AreOperationsComing a source sorts (operations_in list) (operations_in base.ops) slice
operations_coming a base list source sorts numbers slice parts same are = record {
  source_is = parts.source_is;
  there_are = parts.there_are;
  coming_are = base_operations a base list source sorts parts;
  actuals_are =
      same ∙ are.are
      ∙ ap (λ (os : List Operation). actuals_from a.base.presentation.formal_operations (actual_operation a) 0 os)
      (base_operations a base list source sorts parts);
}

pub formal_sort_refused : (a : Actualising) (fault : CodeFault)
    → IsFaultFound (formal_sort_fault a (formal_sorts_of a.base.presentation)) fault → IsFormalSortFault a fault
formal_sort_refused a fault h = record { found = h }

pub formal_operation_refused : (a : Actualising) (fault : CodeFault)
    → IsFaultFound (formal_operation_fault a (formal_operations_of a.base.presentation)) fault → IsFormalOperationFault a fault
formal_operation_refused a fault h = record { found = h }

pub coming_refused : (a : Actualising) (fault : CodeFault) → IsFaultFound (coming_fault a) fault → IsComingFault a fault
coming_refused a fault h = record { found = h }

pub behind_pairs_refused : (a : Actualising) (fault : CodeFault) → IsFaultFound (fault_behind_pairs a) fault → IsFaultBehindPairs a fault
behind_pairs_refused a fault h = record { found = h }

-- ---- Too many.

images : {A : Type 0} (image : A → A) (come : A → Coming A) → ((x : A) → (come x).image ≡ image x) → (xs : List A)
    → map (λ (c : Coming A). c.image) (map come xs) ≡ map image xs
images image come same [] = refl
images {A = A} image come same (x ∷ xs) =
    ap (λ (y : A). y ∷ map (λ (c : Coming A). c.image) (map come xs)) (same x)
    ∙ ap (λ (ys : List A). image x ∷ ys) (images image come same xs)

none_too_many : {A : Type 0} (a : Actualising) (same : A → A → Bool) (there : List A) (xs : List (Coming A))
    → coming_too_many a same there xs ≡ None → nat_lt presentation_limit (length there) ≡ false
    → nat_lt presentation_limit (length (with_new same there (map (λ (c : Coming A). c.image) xs))) ≡ false
none_too_many a same there [] none few = few
none_too_many {A = A} a same there (x ∷ xs) none few =
    let now : List A = with_new same there (x.image ∷ []) in
    let parts =
    none_first (fault_if (nat_lt presentation_limit (length now)) (coming_at a too_large x)) (coming_too_many a same now xs) none in
    none_too_many a same now xs parts.1 (not_past (nat_lt presentation_limit (length now)) (coming_at a too_large x) parts.0)

neither : (b c d : Bool) → (b || (c || d)) ≡ false → (b ≡ false) × (c ≡ false)
neither true c d e = let f : true ≡ false = e in cc
neither false true d e = let f : true ≡ false = e in cc
neither false false d e = (refl, refl)

none_of_three : (b c d : Bool) → b ≡ false → c ≡ false → d ≡ false → (b || (c || d)) ≡ false
none_of_three b c d one two three = rw one (rw two three)

-- ---- The faults of what comes in.

-- more equations than a presentation may have
abbrev pub many_equations : Actualising → Option TypeFault
many_equations a =
    fault_if (nat_lt presentation_limit (length (actualised_equations a))) (too_large a.base.at.place a.base.at.name)

kept_then : (w x y z last : Option TypeFault)
    → first_fault (first_fault w (first_fault x (first_fault y z))) last
    ≡ first_fault w (first_fault x (first_fault y (first_fault z last)))
kept_then (Some w) x y z last = refl
kept_then None (Some x) y z last = refl
kept_then None None (Some y) z last = refl
kept_then None None None z last = refl

-- they are those that were kept, and too many equations
pub coming_is : (a : Actualising) (base p : Presentation) (s o : Came) → HaveCome a base p s o
    → coming_fault a ≡ first_fault (fault_kept s o) (many_equations a)
coming_is a base p s o came =
    ap
    (λ (f : Option TypeFault).
    first_fault f
    (first_fault
    (coming_clash a operations_clash double_operation (map there_already a.actual.signature.operations) (coming_operations a))
    (first_fault (coming_too_many a is_same_sort a.actual.signature.sorts (coming_sorts a))
    (first_fault (coming_too_many a is_same_operation a.actual.signature.operations (coming_operations a)) (many_equations a)))))
    came.sorts.clash
    ∙ ap
    (λ (f : Option TypeFault).
    first_fault (sort_twice s)
    (first_fault f
    (first_fault (coming_too_many a is_same_sort a.actual.signature.sorts (coming_sorts a))
    (first_fault (coming_too_many a is_same_operation a.actual.signature.operations (coming_operations a)) (many_equations a)))))
    came.operations.clash
    ∙ ap
    (λ (f : Option TypeFault).
    first_fault (sort_twice s)
    (first_fault (operation_twice o)
    (first_fault f
    (first_fault (coming_too_many a is_same_operation a.actual.signature.operations (coming_operations a)) (many_equations a)))))
    came.sorts.too_many
    ∙ ap
    (λ (f : Option TypeFault).
    first_fault (sort_twice s)
    (first_fault (operation_twice o) (first_fault (too_much s) (first_fault f (many_equations a)))))
    came.operations.too_many
    ∙ sym (kept_then (sort_twice s) (operation_twice o) (too_much s) (too_much o) (many_equations a))

pub kept_refused : (a : Actualising) (base p : Presentation) (s o : Came) (fault : CodeFault) → HaveCome a base p s o
    → IsFaultFound (fault_kept s o) fault → IsComingFault a fault
kept_refused a base p s o fault came found =
    coming_refused a fault
    (found_same (coming_fault a) (first_fault (fault_kept s o) (many_equations a)) fault (coming_is a base p s o came)
    (found_first (fault_kept s o) (many_equations a) fault found))

-- ---- The sorts and operations came, and nothing was kept.

pub record NothingKept (s o : Came) : Type 0 where
  pub sort_clash : place_kept s.clash ≡ None
  pub operation_clash : place_kept o.clash ≡ None
  pub sorts : fault_at too_large (place_kept s.too_many) ≡ None
  pub operations : fault_at too_large (place_kept o.too_many) ≡ None

nothing : (s o : Came) → fault_kept s o ≡ None → NothingKept s o
nothing s o none =
    let first = none_first (sort_twice s) (first_fault (operation_twice o) (first_fault (too_much s) (too_much o))) none in
    let second = none_first (operation_twice o) (first_fault (too_much s) (too_much o)) first.1 in
    let third = none_first (too_much s) (too_much o) second.1 in record {
      sort_clash = none_at double_sort (place_kept s.clash) first.0;
      operation_clash = none_at double_operation (place_kept o.clash) second.0;
      sorts = third.0;
      operations = third.1;
    }

pub brought : (a : Actualising) (base p : Presentation) (s o : Came) → HaveCome a base p s o → fault_kept s o ≡ None
    → IsBrought a base p s.numbers.items o.numbers.items
brought a base p s o came none =
    let kept = nothing s o none in record {
      base_is = came.base_is;
      base_sound = came.base_sound;
      has = came.has;
      actual_data = came.actual_data;
      keyed = came.keyed;
      sorts_are = came.sorts.list;
      operations_are = came.operations.list;
      equations_are = came.equations_are;
      sides = came.sides;
      formal_sorts_are = came.formal_sorts_are;
      formal_operations_are = came.formal_operations_are;
      sorts_go = came.sorts.numbers;
      operations_go = came.operations.numbers;
      sorts_differ = ap (λ (ss : List Sort). all_differ are_one_sort ss) (sym came.sorts.list) ∙ came.sorts.differ kept.sort_clash;
      operations_differ =
          ap (λ (os : List Operation). all_differ are_one_operation os) (sym came.operations.list)
          ∙ came.operations.differ kept.operation_clash;
    }

-- the same numbers, as a slice
pub brought_as : (a : Actualising) (base p : Presentation) (sorts operations s o : List ℕ) → s ≡ sorts → o ≡ operations
    → IsBrought a base p sorts operations → IsBrought a base p s o
brought_as a base p sorts operations s o same_sorts same_operations is =
    subst (λ (ns : List ℕ). IsBrought a base p ns o) (sym same_sorts)
    (subst (λ (ns : List ℕ). IsBrought a base p sorts ns) (sym same_operations) is)

-- the equations are the actualisation's
equations_are : (a : Actualising) (new : Presentation) → presentation_of new ≡ actualisation a
    → equations_in new.equations ≡ actualised_equations a
equations_are a new made = ap (λ (p : PlainPresentation). p.equations) made

pub many_refused : (a : Actualising) (base p new : Presentation) (s o : Came) (fault : CodeFault) → HaveCome a base p s o
    → fault_kept s o ≡ None → presentation_of new ≡ actualisation a
    → HoldsOfFault fault
    (λ (f : TypeFault).
    (nat_lt presentation_limit (length (equations_in new.equations)) ≡ true) × (f ≡ too_large a.base.at.place a.base.at.name))
    → IsComingFault a fault
many_refused a base p new s o fault came none made holds =
    coming_refused a fault
    (holds_weaker
    (λ (f : TypeFault).
    (nat_lt presentation_limit (length (equations_in new.equations)) ≡ true) × (f ≡ too_large a.base.at.place a.base.at.name))
    (λ (f : TypeFault). coming_fault a ≡ Some f) fault
    (λ (f : TypeFault) (is : (nat_lt presentation_limit (length (equations_in new.equations)) ≡ true)
    × (f ≡ too_large a.base.at.place a.base.at.name)).
    coming_is a base p s o came ∙ later_is (fault_kept s o) (many_equations a) none
    ∙ ap (λ (b : Bool). fault_if b (too_large a.base.at.place a.base.at.name))
    (ap (λ es. nat_lt presentation_limit (length es)) (sym (equations_are a new made)) ∙ is.0)
    ∙ ap (λ (g : TypeFault). Some g) (sym is.1))
    holds)

few_sorts : (a : Actualising) (base p : Presentation) (s o : Came) → HaveCome a base p s o → NothingKept s o
    → nat_lt presentation_limit (length (actualised_sorts a)) ≡ false
few_sorts a base p s o came kept =
    ap
    (λ (ss : List Sort). nat_lt presentation_limit (length (with_new is_same_sort a.actual.signature.sorts ss)))
    (sym (images (other_sort_image a) (λ (t : Sort). record { image = other_sort_image a t; pair = sort_renamer a t }) (λ t. refl)
    (other_sorts_of a.base.presentation)))
    ∙ none_too_many a is_same_sort a.actual.signature.sorts (coming_sorts a) (came.sorts.too_many ∙ kept.sorts)
    (neither (nat_lt presentation_limit (length a.actual.signature.sorts))
    (nat_lt presentation_limit (length a.actual.signature.operations)) (nat_lt presentation_limit (length a.actual.equations))
    came.actual_within).0

few_operations : (a : Actualising) (base p : Presentation) (s o : Came) → HaveCome a base p s o → NothingKept s o
    → nat_lt presentation_limit (length (actualised_operations a)) ≡ false
few_operations a base p s o came kept =
    ap
    (λ (os : List Operation). nat_lt presentation_limit (length (with_new is_same_operation a.actual.signature.operations os)))
    (sym (images (other_operation_image a)
    (λ (t : Operation). record { image = other_operation_image a t; pair = operation_renamer a t }) (λ t. refl)
    (other_operations_of a.base.presentation)))
    ∙ none_too_many a is_same_operation a.actual.signature.operations (coming_operations a)
    (came.operations.too_many ∙ kept.operations)
    (neither (nat_lt presentation_limit (length a.actual.signature.sorts))
    (nat_lt presentation_limit (length a.actual.signature.operations)) (nat_lt presentation_limit (length a.actual.equations))
    came.actual_within).1

pub completed : (a : Actualising) (base p new : Presentation) (s o : Came) → HaveCome a base p s o → fault_kept s o ≡ None
    → presentation_of new ≡ actualisation a → IsSound new
    → nat_lt presentation_limit (length (equations_in new.equations)) ≡ false → HasBroughtRest a new
completed a base p new s o came none made sound few =
    let kept = nothing s o none in
    let few_equations : nat_lt presentation_limit (length (actualised_equations a)) ≡ false =
    ap (λ es. nat_lt presentation_limit (length es)) (sym (equations_are a new made)) ∙ few in record {
      none =
          coming_is a base p s o came ∙ later_is (fault_kept s o) (many_equations a) none
          ∙ ap (λ (b : Bool). fault_if b (too_large a.base.at.place a.base.at.name)) few_equations;
      made = made;
      sound = sound;
      within =
          ap (λ (q : PlainPresentation). is_too_large q) made
          ∙ none_of_three (nat_lt presentation_limit (length (actualised_sorts a)))
          (nat_lt presentation_limit (length (actualised_operations a))) (nat_lt presentation_limit (length (actualised_equations a)))
          (few_sorts a base p s o came kept) (few_operations a base p s o came kept) few_equations;
    }

-- ---- Sorts, then operations, then what is left.

pub operation_parts : (a : Actualising) (base p : Presentation) (sorts ops : Source) (list : SortList) (s : Came) (numbers : List ℕ)
    → HasParts a base p sorts ops → HasBroughtSorts a list s → numbers ≡ s.numbers.items
    → HasOperationParts a base p.ops ops numbers
operation_parts a base p sorts ops list s numbers parts has same = record {
  base_is = record { presentation_is = parts.base_is; at_is = parts.mention_is };
  there_are = ap (λ (q : PlainPresentation). q.signature.operations) parts.actual_is;
  source_is = record {
    at_is = parts.mention_is;
    name_is = parts.name_is;
    pairs_are = parts.pairs_are;
    formals_are = parts.formals_are;
    sorts_are = λ n. ap (λ (ns : List ℕ). number_in ns n) same ∙ has.came.numbers n;
  };
}

pub sort_parts : (a : Actualising) (base p : Presentation) (sorts ops : Source) → HasParts a base p sorts ops
    → HasSortParts a base p.sorts sorts
sort_parts a base p sorts ops parts = record {
  base_is = record { presentation_is = parts.base_is; at_is = parts.sorts_are.at_is };
  there_are = ap (λ (q : PlainPresentation). q.signature.sorts) parts.actual_is;
  source_is = parts.sorts_are;
}

pub have_come : (a : Actualising) (base p new : Presentation) (sorts ops : Source) (s o : Came) → IsSound base → IsSound p
    → IsWithinLimits p → HasParts a base p sorts ops → HasSortKeys new.sorts → HasOperationKeys new.ops → new.equations ≡ p.equations
    → new.formal_sorts ≡ p.formal_sorts → new.formal_ops ≡ p.formal_ops → HasBroughtSorts a new.sorts s
    → HasBroughtOperations a new.ops o → HaveCome a base new s o
have_come a base p new sorts ops s o base_sound sound within parts sort_keys operation_keys same_equations same_sorts same_ops brought_sorts
    brought_ops = record {
      base_is = parts.base_is;
      base_sound = base_sound;
      has = record { sorts = brought_sorts.none; operations = brought_ops.none };
      actual_data = subst (λ (q : PlainPresentation). IsWellFormedData (flattened_data_of q)) (sym parts.actual_is) sound.data_;
      actual_within = ap (λ (q : PlainPresentation). is_too_large q) parts.actual_is ∙ within;
      keyed = record {
        sorts = sort_keys;
        ops = operation_keys;
        equations = subst (λ l. HasEquationKeys l) (sym same_equations) sound.equations;
        formal_sorts = subst (λ m. IsKnown m) (sym same_sorts) sound.formal_sorts;
        formal_ops = subst (λ m. IsKnown m) (sym same_ops) sound.formal_ops;
      };
      equations_are = ap (λ l. equations_in l) same_equations ∙ ap (λ (q : PlainPresentation). q.equations) (sym parts.actual_is);
      sides =
          subst (λ (l : EquationList). HaveSidesOf a.actual.signature l.equations.items) (sym same_equations)
          (subst (λ (q : PlainPresentation). HaveSidesOf q.signature p.equations.equations.items) (sym parts.actual_is) sound.sides);
      formal_sorts_are = ap (λ m. marks_in m) same_sorts ∙ ap (λ (q : PlainPresentation). q.formal_sorts) (sym parts.actual_is);
      formal_operations_are = ap (λ m. marks_in m) same_ops ∙ ap (λ (q : PlainPresentation). q.formal_operations) (sym parts.actual_is);
      sorts = brought_sorts.came;
      operations = brought_ops.came;
    }

abbrev pub no_formal_sort : Actualising → Option TypeFault
no_formal_sort a = formal_sort_fault a (formal_sorts_of a.base.presentation)

abbrev pub no_formal_operation : Actualising → Option TypeFault
no_formal_operation a = formal_operation_fault a (formal_operations_of a.base.presentation)

pub brought_in : (a : Actualising) (p : Presentation) → formal_sort_fault a (formal_sorts_of a.base.presentation) ≡ None
    → formal_operation_fault a (formal_operations_of a.base.presentation) ≡ None → HasBroughtRest a p → IsBroughtIn a p
brought_in a p sorts ops is = record {
  none =
      later_is (no_formal_sort a) (first_fault (no_formal_operation a) (coming_fault a)) sorts
      ∙ later_is (no_formal_operation a) (coming_fault a) ops ∙ is.none;
  made = is.made;
  sound = is.sound;
  within = is.within;
}

pub sorts_refused : (a : Actualising) (fault : CodeFault) → IsFormalSortFault a fault → IsFaultBehindPairs a fault
sorts_refused a fault is =
    behind_pairs_refused a fault
    (found_first (no_formal_sort a) (first_fault (no_formal_operation a) (coming_fault a)) fault is.found)

pub operations_refused : (a : Actualising) (fault : CodeFault) → formal_sort_fault a (formal_sorts_of a.base.presentation) ≡ None
    → IsFormalOperationFault a fault → IsFaultBehindPairs a fault
operations_refused a fault sorts is =
    behind_pairs_refused a fault
    (found_later (no_formal_sort a) (first_fault (no_formal_operation a) (coming_fault a)) fault sorts
    (found_first (no_formal_operation a) (coming_fault a) fault is.found))

pub rest_refused : (a : Actualising) (fault : CodeFault) → formal_sort_fault a (formal_sorts_of a.base.presentation) ≡ None
    → formal_operation_fault a (formal_operations_of a.base.presentation) ≡ None → IsComingFault a fault → IsFaultBehindPairs a fault
rest_refused a fault sorts ops is =
    behind_pairs_refused a fault
    (found_later (no_formal_sort a) (first_fault (no_formal_operation a) (coming_fault a)) fault sorts
    (found_later (no_formal_operation a) (coming_fault a) fault ops is.found))

-- at the mention of the base, as the code has it
pub many_refused_at : (a : Actualising) (mention : PlacedName) (base p new : Presentation) (s o : Came) (fault : CodeFault)
    → a.base.at ≡ mention → HaveCome a base p s o → fault_kept s o ≡ None → presentation_of new ≡ actualisation a
    → HoldsOfFault fault
    (λ (f : TypeFault).
    (nat_lt presentation_limit (length (equations_in new.equations)) ≡ true) × (f ≡ too_large mention.place mention.name))
    → IsComingFault a fault
many_refused_at a mention base p new s o fault at came none made holds =
    many_refused a base p new s o fault came none made
    (subst
    (λ (m : PlacedName).
    HoldsOfFault fault
    (λ (f : TypeFault). (nat_lt presentation_limit (length (equations_in new.equations)) ≡ true) × (f ≡ too_large m.place m.name)))
    (sym at) holds)
