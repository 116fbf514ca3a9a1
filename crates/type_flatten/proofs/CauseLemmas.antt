-- Faults and their causes.
use Rattle.std.proofs.Common.{◌≡◌, ◌≢◌, ◌↔◌, ◌⊎◌, inl, inr, ◌<◌, ℕ, zero, suc, Bool, true, false, ◌&&◌, ◌||◌, not, nat_eq, nat_lt, List, [], ◌∷◌, ◌++◌, length, slice_get, Option, None, Some, refl, ap, sym, ◌∙◌, subst, arith, eqb-true}
use Rattle.std.specs.List.{list_any}
use Rattle.std.specs.Str.{bytes_eq}
use Rattle.std.proofs.lemmas.Bool.{eq-eqb, ltb-true, and_from, not-true, and_parts}
use Rattle.std.proofs.lemmas.Option.{same_Some}
use Rattle.std.proofs.lemmas.Map.Keys.{any_passes_from_place}
use Rattle.lotos_base.proofs.Bytes.{same_bytes, bytes_same}
use Rattle.lotos_base.specs.Equation.{Place}
use Rattle.lotos_base.specs.Names.{AreOneName, folded}
use Rattle.lotos_base.specs.Signature.{Signature, Sort, Operation, Form, prefix_form, infix_form}
use Rattle.lotos_base.specs.Twins.{form_eq}
use Rattle.lotos_base.specs.WrittenTerm.{PlacedName}
use Rattle.lotos_base.proofs.SignatureLemmas.{Decides-form_eq}
use Rattle.lotos_base.proofs.Tests.{list_any-at}
use Rattle.lotos_base.proofs.Truth.{true_unless}
use Rattle.sort_terms.specs.ReadingOutcome.{one_name, is_sort_name}
use Rattle.sort_terms.specs.WellFormedTest.{all_differ, are_one_sort, are_one_operation}
use Rattle.syntax_trees.specs.WrittenItem.{WrittenOperation, WrittenPair}
use Rattle.type_definitions.specs.TypeFault.{TypeFault, double_sort, double_operation, too_large, no_reading, unknown_sort, unknown_operation, fault_if, first_fault, fault_along}
use Rattle.type_definitions.specs.Presentation.{Presentation, nothing, presentation_limit, has_sort_clash, has_operation_clash, is_too_large}
use Rattle.type_definitions.specs.Union.{presentation_fault, with_mentioned, mention_fault}
use Rattle.type_definitions.specs.Declarations.{with_sort, sort_fault, with_operation, fits_form, unknown_sort_among, operation_fault, with_formal_sorts, with_sorts, with_formal_operations}
use Rattle.type_definitions.specs.Renaming.{is_old_name, is_new_name, names_operation, sort_pair_fault, operation_pair_fault, sort_pairs_fault, operation_pairs_fault}
use Rattle.type_flatten.specs.FaultCauses.{Cause, IsNowhere, OrElse, FirstAlong, at_once, further_on, HasTwoAlike, AreOneSort, AreAlikeOperations, IsAboveLimit, TwoSorts, TwoOperations, TooMuch, IsWrongWith, MentionBrings, SortBrings, NamesNoSort, Misfits, SortIsUnknown, stays_so, ProfileIsUnknown, OperationBrings, IsOldName, IsNewName, NamesNoOperation, SortPairBrings, OperationPairBrings, with_earlier_pair}
use Rattle.type_flatten.specs.FaultCauseLaws.{UnionsAreFaultyWhereCaused, DeclarationsAreFaultyWhereCaused, PairsAreFaultyWhereCaused}

-- ---- Faults and causes in general

-- the fault that is found is the one that has its cause
abbrev pub Tells : Option TypeFault → Cause → Type 0
Tells found Is = (fault : TypeFault) → (found ≡ Some fault) ↔ Is fault

pub or_else : (one other : Option TypeFault) (One Other : Cause) → Tells one One → Tells other Other → Tells (first_fault one other)
    (OrElse One Other)
or_else None other One Other first second fault = (
  λ e. inr ((λ found is. let never : None ≡ Some found = (first found).1 is in cc never), (second fault).0 e),
  by,
)
  where
    by : OrElse One Other fault → other ≡ Some fault
    by (inl is) = let never : None ≡ Some fault = (first fault).1 is in absurd (cc never)
    by (inr there) = (second fault).1 there.1
or_else (Some found) other One Other first second fault = (λ e. inl ((first fault).0 e), by)
  where
    by : OrElse One Other fault → Some found ≡ Some fault
    by (inl is) = (first fault).1 is
    by (inr there) = absurd (there.0 found ((first found).0 refl))

none_told : (Is : Cause) → Tells None Is → IsNowhere Is
none_told Is tells found is = let never : None ≡ Some found = (tells found).1 is in cc never

-- a test and its meaning
abbrev pub Decides : Bool → Type 0 → Type 0
Decides test Means = (test ≡ true) ↔ Means

pub if_told : (test : Bool) (fault : TypeFault) (Means : Type 0) → Decides test Means → Tells (fault_if test fault)
    (λ found. (found ≡ fault) × Means)
if_told true fault Means decides found =
    (λ e. (let same : fault ≡ found = same_Some fault found e in sym same, decides.0 refl), λ is. ap (λ (f : TypeFault). Some f) (sym is.0))
if_told false fault Means decides found =
    (λ e. absurd (cc e), λ is. let never : false ≡ true = decides.1 is.1 in absurd (cc never))

module _ {S D : Type 0} (fault_of : S → D → Option TypeFault) (Is : S → D → Cause) (after : S → D → S)
    (tells : (state : S) (d : D) → Tells (fault_of state d) (Is state d)) where
  along_from : (state : S) (ds : List D) (fault : TypeFault) → fault_along fault_of after state ds ≡ Some fault
      → FirstAlong Is after state ds fault
  along_from state [] fault e = absurd (cc e)
  along_from state (d ∷ ds) fault e = by (fault_of state d) (tells state d) e (λ h. along_from (after state d) ds fault h)
    where
      by : (found : Option TypeFault) → Tells found (Is state d) → first_fault found
          (fault_along fault_of after (after state d) ds) ≡ Some fault
          → (fault_along fault_of after (after state d) ds ≡ Some fault → FirstAlong Is after (after state d) ds fault)
          → FirstAlong Is after state (d ∷ ds) fault
      by None here e later = further_on (none_told (Is state d) here) (later e)
      by (Some found) here e later = at_once ((here fault).0 e)

  along_to : (state : S) (ds : List D) (fault : TypeFault) → FirstAlong Is after state ds fault
      → fault_along fault_of after state ds ≡ Some fault
  along_to _ _ _ (at_once {state = state} {d = d} {ds = ds} {fault = fault} is) =
      ap (λ (found : Option TypeFault). first_fault found (fault_along fault_of after (after state d) ds)) ((tells state d fault).1 is)
  along_to _ _ _ (further_on {state = state} {d = d} {ds = ds} {fault = fault} none rest) =
      by (fault_of state d) (tells state d) (along_to (after state d) ds fault rest)
    where
      by : (found : Option TypeFault) → Tells found (Is state d) → fault_along fault_of after (after state d) ds ≡ Some fault
          → first_fault found (fault_along fault_of after (after state d) ds) ≡ Some fault
      by None here e = e
      by (Some other) here e = absurd (none other ((here other).0 refl))

  pub along_told : (state : S) (ds : List D) → Tells (fault_along fault_of after state ds) (FirstAlong Is after state ds)
  along_told state ds fault = (along_from state ds fault, along_to state ds fault)

-- ---- Two of one kind

module _ {A : Type 0} (same : A → A → Bool) (AreOne : A → A → Type 0) (decides : (x y : A) → Decides (same x y) (AreOne x y)) where
  two_from : (xs : List A) → not (all_differ same xs) ≡ true → HasTwoAlike AreOne xs
  two_from [] e = absurd (cc e)
  two_from (x ∷ xs) e = by (list_any (same x) xs) refl e (λ h. two_from xs h)
    where
      by : (there : Bool) → list_any (same x) xs ≡ there → not (not there && all_differ same xs) ≡ true
          → (not (all_differ same xs) ≡ true → HasTwoAlike AreOne xs) → HasTwoAlike AreOne (x ∷ xs)
      by true is e later =
          let found = list_any-at (same x) xs is in
          record {
            i = 0;
            j = suc found.0;
            one = x;
            other = found.1;
            before = omega arith;
            here = refl;
            there = found.2;
            same = (decides x found.1).0 found.3;
          }
      by false is e later =
          let two : HasTwoAlike AreOne xs = later e in
          record {
            i = suc two.i;
            j = suc two.j;
            one = two.one;
            other = two.other;
            before = (let less : two.i < two.j = two.before in omega (arith, less));
            here = two.here;
            there = two.there;
            same = two.same;
          }

  two_at : (xs : List A) (i j : ℕ) (x y : A) → i < j → slice_get xs i ≡ Some x → slice_get xs j ≡ Some y → AreOne x y
      → not (all_differ same xs) ≡ true
  two_at [] i j x y less here there is = absurd (cc here)
  two_at (z ∷ zs) zero zero x y less here there is = absurd (omega (arith, less))
  two_at (z ∷ zs) zero (suc j) x y less here there is =
      by (list_any (same z) zs)
      (any_passes_from_place (same z) zs j y there ((decides z y).1 (subst (λ (w : A). AreOne w y) (sym (same_Some z x here)) is)))
    where
      by : (found : Bool) → found ≡ true → not (not found && all_differ same zs) ≡ true
      by true e = refl
      by false e = absurd (cc e)
  two_at (z ∷ zs) (suc i) zero x y less here there is = absurd (omega (arith, less))
  two_at (z ∷ zs) (suc i) (suc j) x y less here there is =
      by (not (list_any (same z) zs)) (all_differ same zs) (two_at zs i j x y (omega (arith, less)) here there is)
    where
      by : (first rest : Bool) → not rest ≡ true → not (first && rest) ≡ true
      by true rest e = e
      by false rest e = refl

  two_decided : (xs : List A) → Decides (not (all_differ same xs)) (HasTwoAlike AreOne xs)
  two_decided xs = (two_from xs, λ two. two_at xs two.i two.j two.one two.other two.before two.here two.there two.same)

pub names_decided : (one other : List ℕ) → Decides (one_name one other) (AreOneName one other)
names_decided one other = (same_bytes (folded one) (folded other), bytes_same (folded one) (folded other))

pub operations_decided : (one other : Operation) → Decides (are_one_operation one other) (AreAlikeOperations one other)
operations_decided one other = (
  λ e.
      let parts = and_parts (one_name one.name other.name && form_eq one.form other.form)
      (bytes_eq one.arguments other.arguments && nat_eq one.result other.result) e in
      let front = and_parts (one_name one.name other.name) (form_eq one.form other.form) parts.0 in
      let back = and_parts (bytes_eq one.arguments other.arguments) (nat_eq one.result other.result) parts.1 in
      record {
        named = (names_decided one.name other.name).0 front.0;
        formed = (Decides-form_eq one.form other.form).0 front.1;
        arguments = same_bytes one.arguments other.arguments back.0;
        result = eqb-true one.result other.result back.1;
      },
  λ is.
      and_from (one_name one.name other.name && form_eq one.form other.form)
      (bytes_eq one.arguments other.arguments && nat_eq one.result other.result)
      (and_from (one_name one.name other.name) (form_eq one.form other.form) ((names_decided one.name other.name).1 is.named)
      ((Decides-form_eq one.form other.form).1 is.formed))
      (and_from (bytes_eq one.arguments other.arguments) (nat_eq one.result other.result)
      (bytes_same one.arguments other.arguments is.arguments)
      (eq-eqb one.result other.result is.result)),
)

-- ---- Presentations

pub less_decided : (n m : ℕ) → Decides (nat_lt n m) (n < m)
less_decided n m = (ltb-true n m, λ less. by (nat_lt n m) refl less)
  where
    by : (test : Bool) → nat_lt n m ≡ test → n < m → test ≡ true
    by true e less = refl
    by false e less = absurd (grind (arith, e, less))

pub either_decided : (a b : Bool) (A B : Type 0) → Decides a A → Decides b B → Decides (a || b) (A ⊎ B)
either_decided true b A B one other = (λ e. inl (one.0 refl), λ is. refl)
either_decided false b A B one other = (λ e. inr (other.0 e), by)
  where
    by : A ⊎ B → b ≡ true
    by (inl is) = let never : false ≡ true = one.1 is in absurd (cc never)
    by (inr is) = other.1 is

exceeds_decided : (limit : ℕ) (p : Presentation)
    → Decides (nat_lt limit (length p.signature.sorts) ||
    (nat_lt limit (length p.signature.operations) || nat_lt limit (length p.equations)))
    (IsAboveLimit limit p)
exceeds_decided limit p =
    either_decided _ _ _ _ (less_decided limit (length p.signature.sorts))
    (either_decided _ _ _ _ (less_decided limit (length p.signature.operations)) (less_decided limit (length p.equations)))

pub wrong_told : (place : Place) (name : List ℕ) (p : Presentation) → Tells (presentation_fault place name p) (IsWrongWith place name p)
wrong_told place name p =
    or_else (fault_if (has_sort_clash p) (double_sort place name)) _ (TwoSorts place name p) _
    (if_told (has_sort_clash p) (double_sort place name) (HasTwoAlike AreOneSort p.signature.sorts)
    (two_decided are_one_sort AreOneSort (λ s t. names_decided s.name t.name) p.signature.sorts))
    (or_else (fault_if (has_operation_clash p) (double_operation place name)) _ (TwoOperations place name p) (TooMuch place name p)
    (if_told (has_operation_clash p) (double_operation place name) (HasTwoAlike AreAlikeOperations p.signature.operations)
    (two_decided are_one_operation AreAlikeOperations operations_decided p.signature.operations))
    (if_told (is_too_large p) (too_large place name) (IsAboveLimit presentation_limit p) (exceeds_decided presentation_limit p)))

pub unions_faulty : UnionsAreFaultyWhereCaused
unions_faulty = record {
  presentations = wrong_told;
  unions =
      along_told mention_fault MentionBrings with_mentioned
      (λ p mention. wrong_told mention.at.place mention.at.name (with_mentioned p mention)) nothing;
}

-- ---- Declarations

sort_told : (origin : List ℕ) (is_formal : Bool) (p : Presentation) (declared : PlacedName)
    → Tells (sort_fault origin is_formal p declared) (SortBrings origin is_formal p declared)
sort_told origin is_formal p declared = wrong_told declared.place declared.name (with_sort origin is_formal p declared)

pub unknown_decided : (signature : Signature) (name : List ℕ) → Decides (not (is_sort_name signature name)) (NamesNoSort signature name)
unknown_decided signature name = (
  λ e i sort found same.
      let there : is_sort_name signature name ≡ true =
      any_passes_from_place (λ (s : Sort). one_name s.name name) signature.sorts i sort found ((names_decided sort.name name).1 same) in
      let never : true ≡ false = sym there ∙ not-true (is_sort_name signature name) e in cc never,
  λ no_one. true_unless (is_sort_name signature name) (λ e.
      let found = list_any-at (λ (s : Sort). one_name s.name name) signature.sorts e in
      no_one found.0 found.1 found.2 ((names_decided found.1.name name).0 found.3)),
)

abbrev unknown_here : Presentation → PlacedName → Option TypeFault
unknown_here p name = fault_if (not (is_sort_name p.signature name.name)) (unknown_sort name.place (Some name.name))

unknown_told : (p : Presentation) (name : PlacedName) → Tells (unknown_here p name) (SortIsUnknown p name)
unknown_told p name =
    if_told (not (is_sort_name p.signature name.name)) (unknown_sort name.place (Some name.name)) (NamesNoSort p.signature name.name)
    (unknown_decided p.signature name.name)

among_along : (p : Presentation) (names : List PlacedName) → unknown_sort_among p names ≡ fault_along unknown_here stays_so p names
among_along p [] = refl
among_along p (name ∷ names) = ap (first_fault (unknown_here p name)) (among_along p names)

pub told_as : (one other : Option TypeFault) (Is : Cause) → one ≡ other → Tells other Is → Tells one Is
told_as one other Is same tells = subst (λ (found : Option TypeFault). Tells found Is) (sym same) tells

among_told : (p : Presentation) (names : List PlacedName) → Tells (unknown_sort_among p names) (FirstAlong SortIsUnknown stays_so p names)
among_told p names =
    told_as (unknown_sort_among p names) (fault_along unknown_here stays_so p names) (FirstAlong SortIsUnknown stays_so p names)
    (among_along p names)
    (along_told unknown_here SortIsUnknown stays_so unknown_told p names)

misfit_decided : (form : Form) (count : ℕ) → Decides (not (fits_form form count)) ((form ≡ infix_form) × (count ≢ 2))
misfit_decided prefix_form count = (λ e. absurd (cc e), λ is. absurd (cc is.0))
misfit_decided infix_form count = (
  λ e. (
    refl,
    λ same. let there : nat_eq count 2 ≡ true = eq-eqb count 2 same in
        let never : true ≡ false = sym there ∙ not-true (nat_eq count 2) e in cc never,
  ),
  λ is. true_unless (nat_eq count 2) (λ e. is.1 (eqb-true count 2 e)),
)

operation_told : (origin : List ℕ) (is_formal : Bool) (p : Presentation) (declared : WrittenOperation)
    → Tells (operation_fault origin is_formal p declared) (OperationBrings origin is_formal p declared)
operation_told origin is_formal p declared =
    or_else (fault_if (not (fits_form declared.form (length declared.arguments))) (no_reading declared.place)) _ (Misfits declared) _
    (λ fault.
    let is = if_told (not (fits_form declared.form (length declared.arguments))) (no_reading declared.place)
    ((declared.form ≡ infix_form) × (length declared.arguments ≢ 2)) (misfit_decided declared.form (length declared.arguments)) fault in
    (λ e. let both = is.0 e in (both.0, both.1.0, both.1.1), λ cause. is.1 (cause.0, (cause.1, cause.2))))
    (or_else (unknown_sort_among p (declared.arguments ++ declared.result ∷ [])) _ (ProfileIsUnknown p declared) _
    (among_told p (declared.arguments ++ declared.result ∷ []))
    (wrong_told declared.place declared.name (with_operation origin is_formal p declared)))

pub declarations_faulty : DeclarationsAreFaultyWhereCaused
declarations_faulty origin p sections =
    or_else _ _ _ _ (along_told (sort_fault origin true) (SortBrings origin true) (with_sort origin true)
    (sort_told origin true) p sections.formal_sorts)
    (or_else _ _ _ _
    (along_told (sort_fault origin false) (SortBrings origin false) (with_sort origin false) (sort_told origin false)
    (with_formal_sorts origin p sections) sections.sorts)
    (or_else _ _ _ _
    (along_told (operation_fault origin true) (OperationBrings origin true) (with_operation origin true) (operation_told origin true)
    (with_sorts origin p sections) sections.formal_operations)
    (along_told (operation_fault origin false) (OperationBrings origin false) (with_operation origin false) (operation_told origin false)
    (with_formal_operations origin p sections) sections.operations)))

-- ---- Pairs

pub old_decided : (pairs : List WrittenPair) (name : List ℕ) → Decides (is_old_name pairs name) (IsOldName pairs name)
old_decided pairs name = (
  λ e. let found = list_any-at (λ (pair : WrittenPair). one_name pair.replaced.name name) pairs e in
      (found.0, found.1, found.2, (names_decided found.1.replaced.name name).0 found.3),
  λ is. any_passes_from_place (λ (pair : WrittenPair). one_name pair.replaced.name name) pairs is.0 is.1 is.2
      ((names_decided is.1.replaced.name name).1 is.3),
)

pub new_decided : (pairs : List WrittenPair) (name : List ℕ) → Decides (is_new_name pairs name) (IsNewName pairs name)
new_decided pairs name = (
  λ e. let found = list_any-at (λ (pair : WrittenPair). one_name pair.given name) pairs e in
      (found.0, found.1, found.2, (names_decided found.1.given name).0 found.3),
  λ is. any_passes_from_place (λ (pair : WrittenPair). one_name pair.given name) pairs
      is.0 is.1 is.2 ((names_decided is.1.given name).1 is.3),
)

no_operation_decided : (signature : Signature) (name : List ℕ) → Decides (not (names_operation signature name))
    (NamesNoOperation signature name)
no_operation_decided signature name = (
  λ e i operation found same.
      let there : names_operation signature name ≡ true =
      any_passes_from_place (λ (o : Operation). one_name o.name name) signature.operations i operation found
      ((names_decided operation.name name).1 same) in
      let never : true ≡ false = sym there ∙ not-true (names_operation signature name) e in cc never,
  λ no_one. true_unless (names_operation signature name) (λ e.
      let found = list_any-at (λ (o : Operation). one_name o.name name) signature.operations e in
      no_one found.0 found.1 found.2 ((names_decided found.1.name name).0 found.3)),
)

module _ (signature : Signature) where
  abbrev sort_here : List WrittenPair → WrittenPair → Option TypeFault
  sort_here earlier pair = sort_pair_fault signature earlier earlier pair

  sort_pair_told : (earlier : List WrittenPair) (pair : WrittenPair) → Tells (sort_here earlier pair)
      (SortPairBrings signature earlier pair)
  sort_pair_told earlier pair =
      or_else _ _ _ _
      (if_told (not (is_sort_name signature pair.replaced.name)) (unknown_sort pair.replaced.place (Some pair.replaced.name))
      (NamesNoSort signature pair.replaced.name) (unknown_decided signature pair.replaced.name))
      (or_else _ _ _ _
      (if_told (is_old_name earlier pair.replaced.name) (double_sort pair.place pair.given) (IsOldName earlier pair.replaced.name)
      (old_decided earlier pair.replaced.name))
      (if_told (is_new_name earlier pair.given) (double_sort pair.place pair.given) (IsNewName earlier pair.given)
      (new_decided earlier pair.given)))

  pub operation_pair_told : (earlier : List WrittenPair) (pair : WrittenPair)
      → Tells (operation_pair_fault signature earlier pair) (OperationPairBrings signature earlier pair)
  operation_pair_told earlier pair =
      or_else _ _ _ _
      (if_told (not (names_operation signature pair.replaced.name)) (unknown_operation pair.replaced.place pair.replaced.name)
      (NamesNoOperation signature pair.replaced.name) (no_operation_decided signature pair.replaced.name))
      (if_told (is_old_name earlier pair.replaced.name) (double_operation pair.place pair.given) (IsOldName earlier pair.replaced.name)
      (old_decided earlier pair.replaced.name))

  sort_pairs_along : (earlier pairs : List WrittenPair)
      → sort_pairs_fault signature earlier pairs ≡ fault_along sort_here with_earlier_pair earlier pairs
  sort_pairs_along earlier [] = refl
  sort_pairs_along earlier (pair ∷ pairs) =
      ap (first_fault (sort_pair_fault signature earlier earlier pair)) (sort_pairs_along (earlier ++ pair ∷ []) pairs)

  pub operation_pairs_along : (earlier pairs : List WrittenPair)
      → operation_pairs_fault signature earlier pairs ≡ fault_along (operation_pair_fault signature) with_earlier_pair earlier pairs
  operation_pairs_along earlier [] = refl
  operation_pairs_along earlier (pair ∷ pairs) =
      ap (first_fault (operation_pair_fault signature earlier pair)) (operation_pairs_along (earlier ++ pair ∷ []) pairs)

pub pairs_faulty : PairsAreFaultyWhereCaused
pairs_faulty = record {
  sorts = λ signature pairs.
      told_as (sort_pairs_fault signature [] pairs) _ (FirstAlong (SortPairBrings signature) with_earlier_pair [] pairs)
      (sort_pairs_along signature [] pairs)
      (along_told (sort_here signature) (SortPairBrings signature) with_earlier_pair (sort_pair_told signature) [] pairs);
  operations = λ signature pairs.
      told_as (operation_pairs_fault signature [] pairs) _ (FirstAlong (OperationPairBrings signature) with_earlier_pair [] pairs)
      (operation_pairs_along signature [] pairs)
      (along_told (operation_pair_fault signature) (OperationPairBrings signature) with_earlier_pair
      (operation_pair_told signature) [] pairs);
}
