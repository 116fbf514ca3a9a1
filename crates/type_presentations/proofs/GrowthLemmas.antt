-- What a signature has, a larger one has too; one more member of a list, and whether it is a second one.
use Rattle.std.proofs.Common.{◌≡◌, ℕ, zero, suc, ◌+◌, ◌<◌, ◌≤◌, Bool, true, false, List, [], ◌∷◌, ◌++◌, ◌⊎◌, inl, inr, length, refl, ap, sym, ◌∙◌, subst, arith}
use Rattle.std.specs.Prelude.{Some, slice_get, ◌||◌, ◌&&◌, not, nat_eq, if◌then◌else◌}
use Rattle.std.specs.List.{list_all, list_any}
use Rattle.std.proofs.lemmas.Bool.{eq-eqb, eqb-true, and_parts, not-false}
use Rattle.std.proofs.lemmas.List.{length-append}
use Rattle.std.proofs.lemmas.Option.{none-some, same_Some}
use Rattle.lotos_base.proofs.Members.{at_front}
use Rattle.lotos_base.proofs.Tests.{list_any-weaker}
use Rattle.lotos_base.specs.Signature.{Signature, Sort, Operation, IsOperation, IsWellFormedSignature}
use Rattle.lotos_base.specs.Term.{Term, Terms, variable, node, no_terms, term_then}
use Rattle.lotos_base.specs.Sorting.{HasSort, HaveSorts}
use Rattle.lotos_base.specs.Equation.{Equation, Data, IsEquationOver, IsWellFormedData}
use Rattle.sort_terms.specs.ProfiledTerm.{ProfiledTerm, ProfiledTerms, profiled_variable, profiled_node, no_profiled_terms, profiled_term_then, IsOf, AreOf}
use Rattle.sort_terms.specs.WellFormedTest.{has_known_sorts, are_one_sort, are_one_operation, all_differ, is_well_formed_signature}
use Rattle.sort_terms.proofs.WellFormedLemmas.{well_formed_test, test_well_formed}
use Rattle.type_definitions.specs.Presentation.{is_same_sort, is_same_operation, with_new}
use Rattle.type_presentations.proofs.KeptLemmas.{differ_and_one}
use Rattle.type_presentations.specs.EquationListView.{HaveSidesOf}
use Rattle.sort_terms.specs.SortedView.{profiled_in}
use Rattle.sort_terms.specs.declared.equations.Equation.{Equation as CodeEquation}

-- ---- A larger signature.

pub record IsLarger (old new : Signature) : Type 0 where
  pub sorts : length old.sorts ≤ length new.sorts
  pub operations : (f : ℕ) (o : Operation) → IsOperation old f o → IsOperation new f o

mutual
  pub of_larger : (old new : Signature) (t : ProfiledTerm) → IsLarger old new → IsOf old t → IsOf new t
  of_larger old new (profiled_variable n s) larger h = omega (arith, larger.sorts, h)
  of_larger old new (profiled_node f o ts) larger h = (larger.operations f o h.0, are_of_larger old new ts larger h.1)

  are_of_larger : (old new : Signature) (ts : ProfiledTerms) → IsLarger old new → AreOf old ts → AreOf new ts
  are_of_larger old new no_profiled_terms larger h = h
  are_of_larger old new (profiled_term_then t ts) larger h = (of_larger old new t larger h.0, are_of_larger old new ts larger h.1)

mutual
  sorted_in_larger : (old new : Signature) (t : Term) (s : ℕ) → IsLarger old new → HasSort old t s → HasSort new t s
  sorted_in_larger old new (variable n r) s larger h = let there : r < length new.sorts = omega (arith, larger.sorts, h.1) in (h.0, there)
  sorted_in_larger old new (node f ts) s larger h =
      (h.0, larger.operations f h.0 h.1, h.2, all_sorted_in_larger old new ts h.0.arguments larger h.3)

  all_sorted_in_larger : (old new : Signature) (ts : Terms) (ss : List ℕ) → IsLarger old new → HaveSorts old ts ss → HaveSorts new ts ss
  all_sorted_in_larger old new no_terms [] larger h = h
  all_sorted_in_larger old new no_terms (s ∷ ss) larger h = h
  all_sorted_in_larger old new (term_then t ts) [] larger h = h
  all_sorted_in_larger old new (term_then t ts) (s ∷ ss) larger h =
      (sorted_in_larger old new t s larger h.0, all_sorted_in_larger old new ts ss larger h.1)

over_larger : (old new : Signature) (e : Equation) → IsLarger old new → IsEquationOver old e → IsEquationOver new e
over_larger old new e larger h = record {
  sort = h.sort;
  left_sort = sorted_in_larger old new e.left h.sort larger h.left_sort;
  right_sort = sorted_in_larger old new e.right h.sort larger h.right_sort;
  variable_sorts = λ n s declared. let old_sort : s < length old.sorts =
      h.variable_sorts n s declared in omega (arith, larger.sorts, old_sort);
  numbers = h.numbers;
  left_declared = h.left_declared;
  right_declared = h.right_declared;
}

abbrev pub data_with : Signature → List Equation → Data
data_with signature equations = record { signature = signature; equations = equations }

pub data_in_larger : (old new : Signature) (es : List Equation) → IsLarger old new → IsWellFormedSignature new
    → IsWellFormedData (data_with old es) → IsWellFormedData (data_with new es)
data_in_larger old new es larger fine h = record {
  signature = fine;
  equations = λ e at. over_larger old new e larger (h.equations e at);
}

-- ---- Members at the end.

pub front_or_last : {A : Type 0} (xs : List A) (y : A) (i : ℕ) (x : A) → slice_get (xs ++ y ∷ []) i ≡ Some x
    → (slice_get xs i ≡ Some x) ⊎ (x ≡ y)
front_or_last [] y zero x found = inr (sym (same_Some _ _ found))
front_or_last [] y (suc i) x found = absurd (none-some x found)
front_or_last (z ∷ xs) y zero x found = inl found
front_or_last (z ∷ xs) y (suc i) x found = front_or_last xs y i x found

-- ---- One more member, where none may come twice.

pub record Grown {A : Type 0} (clash : A → A → Bool) (old new : List A) (x : A) (second : Bool) : Type 0 where
  pub told : not (all_differ clash (old ++ x ∷ [])) ≡ second
  pub grown : second ≡ false → new ≡ old ++ x ∷ []

differs_by_one : (n m : ℕ) → m ≡ suc n → nat_eq m n ≡ false
differs_by_one n m is = go (nat_eq m n) refl
  where
    go : (b : Bool) → nat_eq m n ≡ b → b ≡ false
    go true e = let same : m ≡ n = eqb-true m n e in absurd (omega (arith, same, is))
    go false e = refl

pub grown : {A : Type 0} (same clash : A → A → Bool) → ((x y : A) → same x y ≡ true → clash x y ≡ true)
    → ((x y : A) → clash x y ≡ clash y x) → (old new : List A) (x : A) (clashes : Bool)
    → new ≡ with_new same old (x ∷ []) → all_differ clash new ≡ (not clashes && all_differ clash old) → all_differ clash old ≡ true
    → Grown clash old new x (clashes || nat_eq (length new) (length old))
grown {A = A} same clash alike turned old new x clashes is differ apart = go (list_any (same x) old) refl
  where
    behind : all_differ clash (old ++ x ∷ []) ≡ (not (list_any (clash x) old) && all_differ clash old)
    behind = differ_and_one clash turned old x

    or_last : (a : Bool) → (a || true) ≡ true
    or_last true = refl
    or_last false = refl

    or_none : (a : Bool) → (a || false) ≡ a
    or_none true = refl
    or_none false = refl

    not_and : (a b : Bool) → b ≡ true → not (not a && b) ≡ a
    not_and true b e = refl
    not_and false b e = ap not e

    go : (b : Bool) → list_any (same x) old ≡ b → Grown clash old new x (clashes || nat_eq (length new) (length old))
    go true there =
        let unchanged : new ≡ old = is ∙ ap (λ (b : Bool). if b then old else old ++ x ∷ []) there in
        let as_long : nat_eq (length new) (length old) ≡ true =
        eq-eqb (length new) (length old) (ap (λ (xs : List A). length xs) unchanged) in
        let second : (clashes || nat_eq (length new) (length old)) ≡ true =
        ap (λ (b : Bool). clashes || b) as_long ∙ or_last clashes in
        let clashing : list_any (clash x) old ≡ true = list_any-weaker (same x) (clash x) (λ y h. alike x y h) old there in record {
          told = ap not (behind ∙ ap (λ (b : Bool). not b && all_differ clash old) clashing) ∙ sym second;
          grown = λ none. let both : true ≡ false = sym second ∙ none in cc;
        }
    go false there =
        let longer : new ≡ old ++ x ∷ [] = is ∙ ap (λ (b : Bool). if b then old else old ++ x ∷ []) there in
        let more : length new ≡ suc (length old) =
        ap (λ (xs : List A). length xs) longer ∙ length-append old (x ∷ []) ∙ omega arith in
        let first : (clashes || nat_eq (length new) (length old)) ≡ clashes =
        ap (λ (b : Bool). clashes || b) (differs_by_one (length old) (length new) more) ∙ or_none clashes in record {
          told = ap not (ap (λ (xs : List A). all_differ clash xs) (sym longer) ∙ differ) ∙ not_and clashes (all_differ clash old) apart
              ∙ sym first;
          grown = λ none. longer;
        }

pub grown_by : {A : Type 0} (same clash : A → A → Bool) → ((x y : A) → same x y ≡ true → clash x y ≡ true)
    → ((x y : A) → clash x y ≡ clash y x) → (old new : List A) (x : A) (clashes : Bool) (before after : ℕ)
    → new ≡ with_new same old (x ∷ []) → all_differ clash new ≡ (not clashes && all_differ clash old) → all_differ clash old ≡ true
    → before ≡ length old → after ≡ length new → Grown clash old new x (clashes || nat_eq after before)
grown_by same clash alike turned old new x clashes before after is differ apart old-long new-long =
    subst (λ (n : ℕ). Grown clash old new x (clashes || nat_eq after n)) (sym old-long)
    (subst (λ (n : ℕ). Grown clash old new x (clashes || nat_eq n (length old))) (sym new-long)
    (grown same clash alike turned old new x clashes is differ apart))

-- one of two tests
pub first_alone : (a b : Bool) → a ≡ true → (a || b) ≡ a
first_alone true b e = refl
first_alone false b e = cc

-- sorts and operations that are one clash
and_first : (a b : Bool) → (a && b) ≡ true → a ≡ true
and_first true b e = refl
and_first false b e = cc

pub one_sort_clashes : (s t : Sort) → is_same_sort s t ≡ true → are_one_sort s t ≡ true
one_sort_clashes s t h = and_first _ _ h

pub one_operation_clashes : (o p : Operation) → is_same_operation o p ≡ true → are_one_operation o p ≡ true
one_operation_clashes o p h = and_first _ _ h

-- ---- Signatures with one more sort or operation.

pub sorts_differ : (signature : Signature) → IsWellFormedSignature signature → all_differ are_one_sort signature.sorts ≡ true
sorts_differ signature fine =
    (and_parts (all_differ are_one_sort signature.sorts) (all_differ are_one_operation signature.operations)
    (and_parts (list_all (has_known_sorts (length signature.sorts)) signature.operations)
    (all_differ are_one_sort signature.sorts && all_differ are_one_operation signature.operations)
    (test_well_formed signature fine)).1).0

pub operations_differ : (signature : Signature) → IsWellFormedSignature signature → all_differ are_one_operation signature.operations ≡ true
operations_differ signature fine =
    (and_parts (all_differ are_one_sort signature.sorts) (all_differ are_one_operation signature.operations)
    (and_parts (list_all (has_known_sorts (length signature.sorts)) signature.operations)
    (all_differ are_one_sort signature.sorts && all_differ are_one_operation signature.operations)
    (test_well_formed signature fine)).1).1

pub known_sorts : (signature : Signature) → IsWellFormedSignature signature
    → list_all (has_known_sorts (length signature.sorts)) signature.operations ≡ true
known_sorts signature fine =
    (and_parts (list_all (has_known_sorts (length signature.sorts)) signature.operations)
    (all_differ are_one_sort signature.sorts && all_differ are_one_operation signature.operations)
    (test_well_formed signature fine)).0

abbrev with_sort_behind : Signature → Sort → Signature
with_sort_behind signature sort = record { sorts = signature.sorts ++ sort ∷ []; operations = signature.operations }

abbrev with_operation_behind : Signature → Operation → Signature
with_operation_behind signature operation = record { sorts = signature.sorts; operations = signature.operations ++ operation ∷ [] }

pub larger_by_sort : (signature : Signature) (sort : Sort) → IsLarger signature (with_sort_behind signature sort)
larger_by_sort signature sort = record {
  sorts = omega (arith, length-append signature.sorts (sort ∷ []));
  operations = λ f o at. at;
}

pub larger_by_operation : (signature : Signature) (operation : Operation)
    → IsLarger signature (with_operation_behind signature operation)
larger_by_operation signature operation = record {
  sorts = omega arith;
  operations = λ f o at. at_front signature.operations (operation ∷ []) f o at;
}

pub well_formed_with_sort : (signature : Signature) (sort : Sort) → IsWellFormedSignature signature
    → not (all_differ are_one_sort (signature.sorts ++ sort ∷ [])) ≡ false → IsWellFormedSignature (with_sort_behind signature sort)
well_formed_with_sort signature sort fine none =
    let alone : Signature = record { sorts = signature.sorts ++ sort ∷ []; operations = [] } in
    let differ : all_differ are_one_sort (signature.sorts ++ sort ∷ []) ≡ true =
    not-false (all_differ are_one_sort (signature.sorts ++ sort ∷ [])) none in
    let test : is_well_formed_signature alone ≡ true = rw differ refl in
    let more : length (signature.sorts ++ sort ∷ []) ≡ length signature.sorts + 1 = length-append signature.sorts (sort ∷ []) in record {
      results = λ f o at. let old : o.result < length signature.sorts = fine.results f o at in omega (arith, old, more);
      arguments = λ f i s o at there. let old : s < length signature.sorts = fine.arguments f i s o at there in omega (arith, old, more);
      sort_names = (well_formed_test alone test).sort_names;
      profiles = fine.profiles;
    }

all_and_one : {A : Type 0} (test : A → Bool) (xs : List A) (x : A) → list_all test xs ≡ true → test x ≡ true
    → list_all test (xs ++ x ∷ []) ≡ true
all_and_one test [] x all last = rw last refl
all_and_one test (y ∷ ys) x all last =
    let parts = and_parts (test y) (list_all test ys) all in rw (parts.0) (all_and_one test ys x parts.1 last)

pub well_formed_with_operation : (signature : Signature) (operation : Operation) → IsWellFormedSignature signature
    → has_known_sorts (length signature.sorts) operation ≡ true
    → not (all_differ are_one_operation (signature.operations ++ operation ∷ [])) ≡ false
    → IsWellFormedSignature (with_operation_behind signature operation)
well_formed_with_operation signature operation fine known none =
    let differ : all_differ are_one_operation (signature.operations ++ operation ∷ []) ≡ true =
    not-false (all_differ are_one_operation (signature.operations ++ operation ∷ [])) none in
    let sorts : all_differ are_one_sort signature.sorts ≡ true = sorts_differ signature fine in
    let all : list_all (has_known_sorts (length signature.sorts)) (signature.operations ++ operation ∷ []) ≡ true =
    all_and_one (has_known_sorts (length signature.sorts)) signature.operations operation (known_sorts signature fine) known in
    let test : is_well_formed_signature (with_operation_behind signature operation) ≡ true = rw (all, sorts, differ) refl in
    well_formed_test (with_operation_behind signature operation) test

-- ---- Sides and data over them.

abbrev Stand : Signature → List CodeEquation → List Equation → Type 0
Stand signature items es = HaveSidesOf signature items × IsWellFormedData (data_with signature es)

sides_in_larger : (old new : Signature) (items : List CodeEquation) → IsLarger old new → HaveSidesOf old items → HaveSidesOf new items
sides_in_larger old new items larger h i e at =
    let sides = h i e at in
    (of_larger old new (profiled_in e.left) larger sides.0, of_larger old new (profiled_in e.right) larger sides.1)

abbrev listing : List Sort → List Operation → Signature
listing sorts operations = record { sorts = sorts; operations = operations }

pub stand_with_sort : (sorts new : List Sort) (operations : List Operation) (sort : Sort) (items : List CodeEquation) (es : List Equation)
    → new ≡ sorts ++ sort ∷ [] → not (all_differ are_one_sort (sorts ++ sort ∷ [])) ≡ false → HaveSidesOf (listing sorts operations) items
    → IsWellFormedData (data_with (listing sorts operations) es) → Stand (listing new operations) items es
stand_with_sort sorts new operations sort items es is none sides fine =
    let old : Signature = listing sorts operations in
    subst (λ (ss : List Sort). Stand (listing ss operations) items es) (sym is) (
      sides_in_larger old (with_sort_behind old sort) items (larger_by_sort old sort) sides,
      data_in_larger old (with_sort_behind old sort) es (larger_by_sort old sort) (well_formed_with_sort old sort fine.signature none) fine,
    )

pub stand_with_operation : (sorts : List Sort) (operations new : List Operation) (operation : Operation) (items : List CodeEquation)
    (es : List Equation) → new ≡ operations ++ operation ∷ [] → has_known_sorts (length sorts) operation ≡ true
    → not (all_differ are_one_operation (operations ++ operation ∷ [])) ≡ false → HaveSidesOf (listing sorts operations) items
    → IsWellFormedData (data_with (listing sorts operations) es) → Stand (listing sorts new) items es
stand_with_operation sorts operations new operation items es is known none sides fine =
    let old : Signature = listing sorts operations in
    subst (λ (os : List Operation). Stand (listing sorts os) items es) (sym is) (
      sides_in_larger old (with_operation_behind old operation) items (larger_by_operation old operation) sides,
      data_in_larger old (with_operation_behind old operation) es (larger_by_operation old operation)
          (well_formed_with_operation old operation fine.signature known none) fine,
    )

-- ---- Data with one more equation.

pub data_with_equation : (signature : Signature) (es : List Equation) (e : Equation) → IsWellFormedData (data_with signature es)
    → IsEquationOver signature e → IsWellFormedData (data_with signature (es ++ e ∷ []))
data_with_equation signature es e fine over = record {
  signature = fine.signature;
  equations = λ d at.
      elim (front_or_last es e at.0 d at.1) [
        | inl before ↦ fine.equations d (at.0, before)
        | inr last ↦ subst (λ (x : Equation). IsEquationOver signature x) (sym last) over
      ];
}
