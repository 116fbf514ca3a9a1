-- Faults of actualisations and their causes.
use Rattle.std.proofs.Common.{◌≡◌, ◌<◌, ℕ, zero, suc, Bool, true, false, ◌&&◌, ◌||◌, not, nat_eq, nat_lt, if◌then◌else◌, List, [], ◌∷◌, ◌++◌, length, map, slice_get, Option, None, Some, refl, ap, sym, ◌∙◌, subst, arith, eqb-true}
use Rattle.std.specs.List.{list_any}
use Rattle.std.specs.Str.{bytes_eq}
use Rattle.std.proofs.lemmas.Bool.{eq-eqb, and_from, not-true, and_parts}
use Rattle.std.proofs.lemmas.Option.{same_Some}
use Rattle.std.proofs.lemmas.Map.Keys.{any_passes_from_place}
use Rattle.lotos_base.proofs.Bytes.{same_bytes, bytes_same}
use Rattle.lotos_base.specs.Equation.{Place}
use Rattle.lotos_base.specs.Names.{AreOneName}
use Rattle.lotos_base.specs.Signature.{Sort, Operation, Form}
use Rattle.lotos_base.specs.Twins.{form_eq}
use Rattle.lotos_base.proofs.SignatureLemmas.{Decides-form_eq}
use Rattle.lotos_base.proofs.Tests.{list_any-at}
use Rattle.lotos_base.proofs.Truth.{true_unless}
use Rattle.sort_terms.specs.ReadingOutcome.{one_name, is_sort_name}
use Rattle.sort_terms.specs.WellFormedTest.{are_one_sort, are_one_operation}
use Rattle.syntax_trees.specs.WrittenItem.{WrittenPair}
use Rattle.type_definitions.specs.TypeFault.{TypeFault, double_sort, double_operation, too_large, not_formal, missing_actual, unknown_sort, fault_if, first_fault, fault_along}
use Rattle.type_definitions.specs.Presentation.{Presentation, nothing, presentation_limit, is_same_place, with_new, is_same_sort, is_same_operation}
use Rattle.type_definitions.specs.Union.{Mentioned, mention_fault, with_mentioned}
use Rattle.type_definitions.specs.Renaming.{pair_for, is_new_name, sort_pair_fault, operation_pair_fault, operation_pairs_fault}
use Rattle.type_definitions.specs.Actualisation.{Actualising, formal_sorts_of, formal_operations_of, is_formal, is_formal_sort, actualised_sort, actual_name, other_form, is_actual, has_actual, actualised_equations}
use Rattle.type_definitions.specs.ActualisationFaults.{unshared, actual_pairs_fault, no_actual_sort, formal_sort_fault, formal_operation_fault, Coming, coming_at, made_by_two, sorts_clash, operations_clash, coming_clash, coming_too_many, there_already, coming_sorts, coming_operations, coming_fault, actualising_of, actualising_fault}
use Rattle.type_flatten.specs.FaultCauses.{FirstAlong, MentionBrings, NamesNoSort, IsOldName, OperationPairBrings, with_earlier_pair}
use Rattle.type_flatten.specs.ActualisationCauses.{IsFormalName, SharesNewName, ActualPairBrings, told_missing, FormalSortIsMissing, IsActual, HasNoActual, FormalOperationIsMissing, keeps_all, MadeByTwo, SortsClash, OperationsClash, Clashes, and_then_coming, IsOneTooMany, with_coming, ComingBrings, ActualisingBrings, BaseIsNotFormal}
use Rattle.type_flatten.specs.ActualisationCauseLaws.{ActualisationsAreFaultyWhereCaused}
use Rattle.type_flatten.proofs.CauseLemmas.{Tells, Decides, or_else, if_told, along_told, names_decided, operations_decided, less_decided, either_decided, wrong_told, unknown_decided, told_as, old_decided, operation_pair_told, operation_pairs_along}

not_decided : (test : Bool) (Means : Type 0) → Decides test Means → Decides (not test) (¬ Means)
not_decided test Means decides = (
  λ e is. let never : true ≡ false = sym (decides.1 is) ∙ not-true test e in cc never,
  λ none. true_unless test (λ e. none (decides.0 e)),
)

both_decided : (a b : Bool) (A B : Type 0) → Decides a A → Decides b B → Decides (a && b) (A × B)
both_decided a b A B one other = (
  λ e. let parts = and_parts a b e in (one.0 parts.0, other.0 parts.1),
  λ is. and_from a b (one.1 is.0) (other.1 is.1),
)

-- ---- Pairs

formal_decided : (base : Presentation) (name : List ℕ) → Decides (is_formal_sort base name) (IsFormalName base name)
formal_decided base name = (
  λ e. let found = list_any-at (λ (s : Sort). one_name s.name name) (formal_sorts_of base) e in
      (found.0, found.1, found.2, (names_decided found.1.name name).0 found.3),
  λ is. any_passes_from_place (λ (s : Sort). one_name s.name name) (formal_sorts_of base)
      is.0 is.1 is.2 ((names_decided is.1.name name).1 is.3),
)

module _ (base : Presentation) (pair : WrittenPair) where
  abbrev both_formal : WrittenPair → Bool
  both_formal earlier = is_formal_sort base earlier.replaced.name && is_formal_sort base pair.replaced.name

  formal_both : (earlier : WrittenPair)
      → Decides (both_formal earlier) (IsFormalName base earlier.replaced.name × IsFormalName base pair.replaced.name)
  formal_both earlier =
      both_decided (is_formal_sort base earlier.replaced.name) (is_formal_sort base pair.replaced.name)
      (IsFormalName base earlier.replaced.name) (IsFormalName base pair.replaced.name) (formal_decided base earlier.replaced.name)
      (formal_decided base pair.replaced.name)

  further : (earlier : WrittenPair) (pairs : List WrittenPair) → SharesNewName base pairs pair → SharesNewName base (earlier ∷ pairs) pair
  further earlier pairs is =
      record { i = suc is.i; other = is.other; found = is.found; unless_formal = is.unless_formal; same = is.same }

  shared_from : (pairs : List WrittenPair) → is_new_name (unshared base pairs pair) pair.given ≡ true → SharesNewName base pairs pair
  shared_from [] e = absurd (cc e)
  shared_from (earlier ∷ pairs) e = by (both_formal earlier) refl e (λ h. shared_from pairs h)
    where
      first : (rest : Bool) (here : Bool) → one_name earlier.given pair.given ≡ here → both_formal earlier ≡ false
          → (here || is_new_name (unshared base pairs pair) pair.given) ≡ true
          → (is_new_name (unshared base pairs pair) pair.given ≡ true → SharesNewName base pairs pair)
          → SharesNewName base (earlier ∷ pairs) pair
      first rest true is other e later = record {
        i = 0;
        other = earlier;
        found = refl;
        unless_formal = λ one too. let never : true ≡ false = sym ((formal_both earlier).1 (one, too)) ∙ other in cc never;
        same = (names_decided earlier.given pair.given).0 is;
      }
      first rest false is other e later = further earlier pairs (later e)

      by : (formal : Bool) → both_formal earlier ≡ formal
          → is_new_name (if formal then unshared base pairs pair else earlier ∷ unshared base pairs pair) pair.given ≡ true
          → (is_new_name (unshared base pairs pair) pair.given ≡ true → SharesNewName base pairs pair)
          → SharesNewName base (earlier ∷ pairs) pair
      by true is e later = further earlier pairs (later e)
      by false is e later = first true (one_name earlier.given pair.given) refl is e later

  shared_at : (pairs : List WrittenPair) (i : ℕ) (other : WrittenPair) → slice_get pairs i ≡ Some other
      → (IsFormalName base other.replaced.name → IsFormalName base pair.replaced.name → ⊥) → AreOneName other.given pair.given
      → is_new_name (unshared base pairs pair) pair.given ≡ true
  shared_at [] i other found apart same = absurd (cc found)
  shared_at (earlier ∷ pairs) zero other found apart same = by (both_formal earlier) refl
    where
      is : earlier ≡ other
      is = same_Some earlier other found

      named : one_name earlier.given pair.given ≡ true
      named = (names_decided earlier.given pair.given).1 (subst (λ (p : WrittenPair). AreOneName p.given pair.given) (sym is) same)

      by : (formal : Bool) → both_formal earlier ≡ formal
          → is_new_name (if formal then unshared base pairs pair else earlier ∷ unshared base pairs pair) pair.given ≡ true
      by true e =
          let two = (formal_both earlier).0 e in
          absurd (apart (subst (λ (p : WrittenPair). IsFormalName base p.replaced.name) is two.0) two.1)
      by false e = ap (λ (here : Bool). here || is_new_name (unshared base pairs pair) pair.given) named
  shared_at (earlier ∷ pairs) (suc i) other found apart same =
      by (both_formal earlier) (one_name earlier.given pair.given) (shared_at pairs i other found apart same)
    where
      by : (formal here : Bool) → is_new_name (unshared base pairs pair) pair.given ≡ true
          → list_any (λ (p : WrittenPair). one_name p.given pair.given)
          (if formal then unshared base pairs pair else earlier ∷ unshared base pairs pair) ≡ true
      by true here e = e
      by false here e = or_right (one_name earlier.given pair.given) (is_new_name (unshared base pairs pair) pair.given) e
        where
          or_right : (a b : Bool) → b ≡ true → (a || b) ≡ true
          or_right true b h = refl
          or_right false b h = h

  shared_decided : (pairs : List WrittenPair) → Decides (is_new_name (unshared base pairs pair) pair.given) (SharesNewName base pairs pair)
  shared_decided pairs = (shared_from pairs, λ is. shared_at pairs is.i is.other is.found is.unless_formal is.same)

actual_here : Presentation → List WrittenPair → WrittenPair → Option TypeFault
actual_here base earlier pair = sort_pair_fault base.signature earlier (unshared base earlier pair) pair

actual_pair_told : (base : Presentation) (earlier : List WrittenPair) (pair : WrittenPair)
    → Tells (actual_here base earlier pair) (ActualPairBrings base earlier pair)
unfolding actual_here
actual_pair_told base earlier pair =
    or_else _ _ _ _
    (if_told (not (is_sort_name base.signature pair.replaced.name)) (unknown_sort pair.replaced.place (Some pair.replaced.name))
    (NamesNoSort base.signature pair.replaced.name) (unknown_decided base.signature pair.replaced.name))
    (or_else _ _ _ _
    (if_told _ (double_sort pair.place pair.given) (IsOldName earlier pair.replaced.name) (old_decided earlier pair.replaced.name))
    (if_told (is_new_name (unshared base earlier pair) pair.given) (double_sort pair.place pair.given) (SharesNewName base earlier pair)
    (shared_decided base pair earlier)))

actual_pairs_along : (base : Presentation) (earlier pairs : List WrittenPair)
    → actual_pairs_fault base earlier pairs ≡ fault_along (actual_here base) with_earlier_pair earlier pairs
unfolding actual_here
actual_pairs_along base earlier [] = refl
actual_pairs_along base earlier (pair ∷ pairs) =
    ap (first_fault (sort_pair_fault base.signature earlier (unshared base earlier pair) pair))
    (actual_pairs_along base (earlier ++ pair ∷ []) pairs)

-- ---- What is formal

missing_same : (a : Actualising) (name : List ℕ) (pair : Option WrittenPair) → no_actual_sort a name pair ≡ told_missing a name pair
missing_same a name None = refl
missing_same a name (Some pair) = refl

abbrev sought : Actualising → Sort → List ℕ
sought a s = actual_name s.name (pair_for a.pairs.sort_pairs s.name)

formal_here : Actualising → Sort → Option TypeFault
formal_here a s =
    fault_if (not (is_sort_name a.actual.signature (actual_name s.name (pair_for a.pairs.sort_pairs s.name))))
    (no_actual_sort a s.name (pair_for a.pairs.sort_pairs s.name))

formal_sort_told : (a : Actualising) (s : Sort) → Tells (formal_here a s) (FormalSortIsMissing a s)
unfolding formal_here
formal_sort_told a s =
    subst (λ (told : TypeFault). Tells (fault_if (not (is_sort_name a.actual.signature (sought a s))) told) (FormalSortIsMissing a s))
    (sym (missing_same a s.name (pair_for a.pairs.sort_pairs s.name)))
    (if_told (not (is_sort_name a.actual.signature (sought a s))) (told_missing a s.name (pair_for a.pairs.sort_pairs s.name))
    (NamesNoSort a.actual.signature (sought a s)) (unknown_decided a.actual.signature (sought a s)))

formal_sorts_along : (a : Actualising) (ss : List Sort) → formal_sort_fault a ss ≡ fault_along formal_here keeps_all a ss
unfolding formal_here
formal_sorts_along a [] = refl
formal_sorts_along a (s ∷ ss) =
    ap (first_fault (fault_if (not (is_sort_name a.actual.signature (actual_name s.name (pair_for a.pairs.sort_pairs s.name))))
    (no_actual_sort a s.name (pair_for a.pairs.sort_pairs s.name)))) (formal_sorts_along a ss)

actual_decided : (a : Actualising) (formal : Operation) (form : Form) (operation : Operation)
    → Decides (is_actual a formal form operation) (IsActual a formal form operation)
actual_decided a formal form operation = (
  λ e.
      let parts = and_parts (one_name operation.name
      (actual_name formal.name (pair_for a.pairs.operation_pairs formal.name)) && form_eq operation.form form)
      (bytes_eq operation.arguments (map (actualised_sort a) formal.arguments) && nat_eq operation.result
      (actualised_sort a formal.result)) e in
      let front = and_parts (one_name operation.name (actual_name formal.name (pair_for a.pairs.operation_pairs formal.name)))
      (form_eq operation.form form) parts.0 in
      let back = and_parts (bytes_eq operation.arguments (map (actualised_sort a) formal.arguments))
      (nat_eq operation.result (actualised_sort a formal.result)) parts.1 in
      record {
        named = (names_decided operation.name (actual_name formal.name (pair_for a.pairs.operation_pairs formal.name))).0 front.0;
        formed = (Decides-form_eq operation.form form).0 front.1;
        arguments = same_bytes operation.arguments (map (actualised_sort a) formal.arguments) back.0;
        result = eqb-true operation.result (actualised_sort a formal.result) back.1;
      },
  λ is.
      and_from _ _
      (and_from _ _ ((names_decided operation.name (actual_name formal.name (pair_for a.pairs.operation_pairs formal.name))).1 is.named)
      ((Decides-form_eq operation.form form).1 is.formed))
      (and_from _ _ (bytes_same operation.arguments (map (actualised_sort a) formal.arguments) is.arguments)
      (eq-eqb operation.result (actualised_sort a formal.result) is.result)),
)

no_actual_from : (a : Actualising) (formal : Operation) (form : Form) → has_actual a formal form ≡ false → HasNoActual a formal form
no_actual_from a formal form e i operation found is =
    let there : has_actual a formal form ≡ true =
    any_passes_from_place (is_actual a formal form) a.actual.signature.operations i operation found
    ((actual_decided a formal form operation).1 is) in
    let never : true ≡ false = sym there ∙ e in cc never

no_actual_to : (a : Actualising) (formal : Operation) (form : Form) → HasNoActual a formal form → has_actual a formal form ≡ false
no_actual_to a formal form none =
    not-true (has_actual a formal form) (true_unless (has_actual a formal form) (λ e.
    let found = list_any-at (is_actual a formal form) a.actual.signature.operations e in
    none found.0 found.1 found.2 ((actual_decided a formal form found.1).0 found.3)))

neither : (x y : Bool) → not (x || y) ≡ true → (x ≡ false) × (y ≡ false)
neither true y e = absurd (cc e)
neither false true e = absurd (cc e)
neither false false e = (refl, refl)

neither_back : (x y : Bool) → x ≡ false → y ≡ false → not (x || y) ≡ true
neither_back true y e d = absurd (cc e)
neither_back false true e d = absurd (cc d)
neither_back false false e d = refl

operation_here : Actualising → Operation → Option TypeFault
operation_here a o = fault_if (not (has_actual a o o.form || has_actual a o (other_form o.form))) (missing_actual a.base.at.place o.name)

formal_operation_told : (a : Actualising) (o : Operation) → Tells (operation_here a o) (FormalOperationIsMissing a o)
unfolding operation_here
formal_operation_told a o fault =
    let is = if_told (not (has_actual a o o.form || has_actual a o (other_form o.form))) (missing_actual a.base.at.place o.name)
    (HasNoActual a o o.form × HasNoActual a o (other_form o.form)) (
      λ e. let two = neither (has_actual a o o.form) (has_actual a o (other_form o.form)) e in
          (no_actual_from a o o.form two.0, no_actual_from a o (other_form o.form) two.1),
      λ none. neither_back (has_actual a o o.form) (has_actual a o (other_form o.form)) (no_actual_to a o o.form none.0)
          (no_actual_to a o (other_form o.form) none.1),
    ) fault in
    (λ e. let both = is.0 e in (both.0, both.1.0, both.1.1), λ cause. is.1 (cause.0, (cause.1, cause.2)))

formal_operations_along : (a : Actualising) (os : List Operation) → formal_operation_fault a os ≡ fault_along operation_here keeps_all a os
unfolding operation_here
formal_operations_along a [] = refl
formal_operations_along a (o ∷ os) =
    ap (first_fault (fault_if (not (has_actual a o o.form || has_actual a o (other_form o.form))) (missing_actual a.base.at.place o.name)))
    (formal_operations_along a os)

-- ---- What comes in

places_decided : (one other : Place) → Decides (is_same_place one other) (one ≡ other)
places_decided one other = (
  λ e.
      let parts = and_parts (nat_eq one.text other.text) (nat_eq one.line other.line && nat_eq one.column other.column) e in
      let rest = and_parts (nat_eq one.line other.line) (nat_eq one.column other.column) parts.1 in
      let make : ℕ → ℕ → ℕ → Place = λ x y z. record { text = x; line = y; column = z } in
      ap (λ (n : ℕ). make n one.line one.column) (eqb-true one.text other.text parts.0)
      ∙ ap (λ (n : ℕ). make other.text n one.column) (eqb-true one.line other.line rest.0)
      ∙ ap (make other.text other.line) (eqb-true one.column other.column rest.1),
  λ same.
      and_from _ _ (eq-eqb one.text other.text (ap (λ (p : Place). p.text) same))
      (and_from _ _ (eq-eqb one.line other.line (ap (λ (p : Place). p.line) same))
      (eq-eqb one.column other.column (ap (λ (p : Place). p.column) same))),
)

two_decided : {A : Type 0} (x y : A) (one other : Option WrittenPair)
    → Decides (made_by_two one other) (MadeByTwo {A = A} (record { image = x; pair = one }) (record { image = y; pair = other }))
two_decided x y None other = (λ e. absurd (cc e), λ is. absurd (cc is.made))
two_decided x y (Some one) None = (λ e. absurd (cc e), λ is. absurd (cc is.made_too))
two_decided x y (Some one) (Some other) = (
  λ e. record {
    first = one;
    second = other;
    made = refl;
    made_too = refl;
    apart = (not_decided (is_same_place one.place other.place) (one.place ≡ other.place) (places_decided one.place other.place)).0 e;
  },
  λ is.
      (not_decided (is_same_place one.place other.place) (one.place ≡ other.place) (places_decided one.place other.place)).1
      (λ same. is.apart (ap (λ (p : WrittenPair). p.place) (sym (same_Some one is.first is.made)) ∙ same
      ∙ ap (λ (p : WrittenPair). p.place) (same_Some other is.second is.made_too))),
)

module _ {A : Type 0} (a : Actualising) (clash : Coming A → Coming A → Bool) (Clash : Coming A → Coming A → Type 0)
    (decides : (x y : Coming A) → Decides (clash x y) (Clash x y)) (kind : Place → List ℕ → TypeFault) where
  abbrev clash_here : List (Coming A) → Coming A → Option TypeFault
  clash_here earlier x = fault_if (list_any (clash x) earlier) (coming_at a kind x)

  clash_told : (earlier : List (Coming A)) (x : Coming A) → Tells (clash_here earlier x) (Clashes a Clash kind earlier x)
  clash_told earlier x =
      if_told (list_any (clash x) earlier) (coming_at a kind x)
      ((i : ℕ) × (other : Coming A) × (slice_get earlier i ≡ Some other) × Clash x other) (
        λ e. let found = list_any-at (clash x) earlier e in (found.0, found.1, found.2, (decides x found.1).0 found.3),
        λ is. any_passes_from_place (clash x) earlier is.0 is.1 is.2 ((decides x is.1).1 is.3),
      )

  clashes_along : (earlier xs : List (Coming A)) → coming_clash a clash kind earlier xs ≡ fault_along clash_here and_then_coming earlier xs
  clashes_along earlier [] = refl
  clashes_along earlier (x ∷ xs) = ap (first_fault (clash_here earlier x)) (clashes_along (earlier ++ x ∷ []) xs)

  pub clashes_told : (earlier xs : List (Coming A))
      → Tells (coming_clash a clash kind earlier xs) (FirstAlong (Clashes a Clash kind) and_then_coming earlier xs)
  clashes_told earlier xs =
      told_as (coming_clash a clash kind earlier xs) _ _ (clashes_along earlier xs)
      (along_told clash_here (Clashes a Clash kind) and_then_coming clash_told earlier xs)

sorts_decided : (x y : Coming Sort) → Decides (sorts_clash x y) (SortsClash x y)
sorts_decided x y =
    both_decided (are_one_sort x.image y.image) (not (one_name x.image.origin y.image.origin) || made_by_two x.pair y.pair) _ _
    (names_decided x.image.name y.image.name)
    (either_decided (not (one_name x.image.origin y.image.origin)) (made_by_two x.pair y.pair) (¬ AreOneName x.image.origin y.image.origin)
    (MadeByTwo x y)
    (not_decided (one_name x.image.origin y.image.origin) (AreOneName x.image.origin y.image.origin)
    (names_decided x.image.origin y.image.origin))
    (two_decided x.image y.image x.pair y.pair))

coming_operations_decided : (x y : Coming Operation) → Decides (operations_clash x y) (OperationsClash x y)
coming_operations_decided x y =
    both_decided (are_one_operation x.image y.image) (not (one_name x.image.origin y.image.origin) || made_by_two x.pair y.pair) _ _
    (operations_decided x.image y.image)
    (either_decided (not (one_name x.image.origin y.image.origin)) (made_by_two x.pair y.pair) (¬ AreOneName x.image.origin y.image.origin)
    (MadeByTwo x y)
    (not_decided (one_name x.image.origin y.image.origin) (AreOneName x.image.origin y.image.origin)
    (names_decided x.image.origin y.image.origin))
    (two_decided x.image y.image x.pair y.pair))

module _ {A : Type 0} (a : Actualising) (same : A → A → Bool) where
  many_here : ℕ → List A → Coming A → Option TypeFault
  many_here limit there x = fault_if (nat_lt limit (length (with_new same there (x.image ∷ [])))) (coming_at a too_large x)

  many_told : (there : List A) (x : Coming A) → Tells (many_here presentation_limit there x) (IsOneTooMany a same there x)
  unfolding many_here
  many_told there x =
      if_told (nat_lt presentation_limit (length (with_new same there (x.image ∷ [])))) (coming_at a too_large x)
      (presentation_limit < length (with_new same there (x.image ∷ [])))
      (less_decided presentation_limit (length (with_new same there (x.image ∷ []))))

  many_along : (there : List A) (xs : List (Coming A))
      → coming_too_many a same there xs ≡ fault_along (many_here presentation_limit) (with_coming same) there xs
  unfolding many_here
  many_along there [] = refl
  many_along there (x ∷ xs) =
      ap (first_fault (fault_if (nat_lt presentation_limit (length (with_new same there (x.image ∷ [])))) (coming_at a too_large x)))
      (many_along (with_new same there (x.image ∷ [])) xs)

  pub many_are_told : (there : List A) (xs : List (Coming A))
      → Tells (coming_too_many a same there xs) (FirstAlong (IsOneTooMany a same) (with_coming same) there xs)
  many_are_told there xs =
      told_as (coming_too_many a same there xs) _ _ (many_along there xs)
      (along_told (many_here presentation_limit) (IsOneTooMany a same) (with_coming same) many_told there xs)

coming_told : (a : Actualising) → Tells (coming_fault a) (ComingBrings a)
coming_told a =
    or_else _ _ _ _
    (clashes_told a sorts_clash SortsClash sorts_decided double_sort (map there_already a.actual.signature.sorts) (coming_sorts a))
    (or_else _ _ _ _
    (clashes_told a operations_clash OperationsClash coming_operations_decided double_operation
    (map there_already a.actual.signature.operations)
    (coming_operations a))
    (or_else _ _ _ _ (many_are_told a is_same_sort a.actual.signature.sorts (coming_sorts a))
    (or_else _ _ _ _ (many_are_told a is_same_operation a.actual.signature.operations (coming_operations a))
    (if_told (nat_lt presentation_limit (length (actualised_equations a))) (too_large a.base.at.place a.base.at.name)
    (presentation_limit < length (actualised_equations a)) (less_decided presentation_limit (length (actualised_equations a)))))))

-- ---- All of it

none_formal : {A : Type 0} (xs : List A) → Decides (not (nat_lt 0 (length xs))) (xs ≡ [])
none_formal [] = (λ e. refl, λ e. refl)
none_formal (x ∷ xs) = (
  λ e.
      let there : nat_lt 0 (suc (length xs)) ≡ true = (less_decided 0 (suc (length xs))).1 (omega arith) in
      let never : true ≡ false = sym there ∙ not-true (nat_lt 0 (suc (length xs))) e in absurd (cc never),
  λ e. absurd (cc e),
)

neither_formal : (x y : Bool) (X Y : Type 0) → Decides (not x) X → Decides (not y) Y → Decides (not (x || y)) (X × Y)
neither_formal true y X Y one other = (λ e. absurd (cc e), λ is. one.1 is.0)
neither_formal false y X Y one other = (λ e. (one.0 refl, other.0 e), λ is. other.1 is.1)

actualising_told : (a : Actualising) → Tells (actualising_fault a) (ActualisingBrings a)
actualising_told a =
    or_else _ _ _ _
    (told_as (actual_pairs_fault a.base.presentation [] a.pairs.sort_pairs) _ _
    (actual_pairs_along a.base.presentation [] a.pairs.sort_pairs)
    (along_told (actual_here a.base.presentation) (ActualPairBrings a.base.presentation) with_earlier_pair
    (actual_pair_told a.base.presentation) []
    a.pairs.sort_pairs))
    (or_else _ _ _ _
    (told_as (operation_pairs_fault a.base.presentation.signature [] a.pairs.operation_pairs) _ _
    (operation_pairs_along a.base.presentation.signature [] a.pairs.operation_pairs)
    (along_told (operation_pair_fault a.base.presentation.signature) (OperationPairBrings a.base.presentation.signature) with_earlier_pair
    (operation_pair_told a.base.presentation.signature) [] a.pairs.operation_pairs))
    (or_else _ _ _ _
    (told_as (formal_sort_fault a (formal_sorts_of a.base.presentation)) _ _ (formal_sorts_along a (formal_sorts_of a.base.presentation))
    (along_told formal_here FormalSortIsMissing keeps_all formal_sort_told a (formal_sorts_of a.base.presentation)))
    (or_else _ _ _ _
    (told_as (formal_operation_fault a (formal_operations_of a.base.presentation)) _ _
    (formal_operations_along a (formal_operations_of a.base.presentation))
    (along_told operation_here FormalOperationIsMissing keeps_all formal_operation_told a (formal_operations_of a.base.presentation)))
    (coming_told a))))

base_told : (base : Mentioned) → Tells (fault_if (not (is_formal base.presentation)) (not_formal base.at.place base.at.name))
    (BaseIsNotFormal base)
base_told base fault =
    let is = if_told (not (is_formal base.presentation)) (not_formal base.at.place base.at.name)
    ((formal_sorts_of base.presentation ≡ []) × (formal_operations_of base.presentation ≡ []))
    (neither_formal (nat_lt 0 (length (formal_sorts_of base.presentation))) (nat_lt 0 (length (formal_operations_of base.presentation))) _ _
    (none_formal (formal_sorts_of base.presentation)) (none_formal (formal_operations_of base.presentation))) fault in
    (λ e. let both = is.0 e in (both.0, both.1.0, both.1.1), λ cause. is.1 (cause.0, (cause.1, cause.2)))

pub actualisations_faulty : ActualisationsAreFaultyWhereCaused
actualisations_faulty base actuals type_name pairs =
    or_else _ _ _ _ (base_told base)
    (or_else _ _ _ _
    (along_told mention_fault MentionBrings with_mentioned
    (λ p mention. wrong_told mention.at.place mention.at.name (with_mentioned p mention)) nothing actuals)
    (actualising_told (actualising_of base actuals type_name pairs)))
