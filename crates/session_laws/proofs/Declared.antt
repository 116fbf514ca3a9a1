-- Sorts and operations that are declared as they are written: the same ones, under the name of the type, and without a fault.
use Rattle.std.proofs.Common.{◌≡◌, ℕ, suc, ◌<◌, ◌≤◌, Bool, true, false, ◌||◌, List, [], ◌∷◌, ◌++◌, map, length, append_assoc, refl, ap, sym, ◌∙◌, subst, arith}
use Rattle.std.specs.Prelude.{Some, None, slice_get, not, nat_lt, fold}
use Rattle.std.specs.List.{list_any}
use Rattle.std.proofs.lemmas.Bool.{and_parts, and_from, or_parts, not-true, ltb-true, ltb-false, eq-eqb}
use Rattle.std.proofs.lemmas.List.{append-nil, length-append}
use Rattle.std.proofs.lemmas.List.Folds.{list_any-append}
use Rattle.lotos_base.specs.WrittenTerm.{PlacedName}
use Rattle.lotos_base.specs.Signature.{Signature, Sort, Operation, IsSort, Form, prefix_form, infix_form}
use Rattle.lotos_base.specs.Equation.{Place, Equation}
use Rattle.syntax_trees.specs.WrittenItem.{WrittenOperation}
use Rattle.sort_terms.specs.ReadingOutcome.{one_name, is_sort_name}
use Rattle.sort_terms.specs.WellFormedTest.{all_differ, are_one_sort, are_one_operation}
use Rattle.type_flatten.proofs.HandedOn.{none_fails}
use Rattle.printed_texts.specs.TermText.{sort_text}
use Rattle.type_definitions.specs.FirstPosition.{first_position}
use Rattle.type_definitions.specs.TypeFault.{TypeFault, double_sort, double_operation, too_large, unknown_sort, no_reading, fault_if, first_fault, fault_along}
use Rattle.type_definitions.specs.Presentation.{Presentation, presentation_limit, has_sort_clash, has_operation_clash, is_too_large}
use Rattle.type_definitions.specs.Union.{presentation_fault}
use Rattle.type_definitions.specs.Declarations.{with_sort, sort_fault, with_operation, operation_fault, fits_form, unknown_sort_among}
use Rattle.session_laws.specs.WrittenBehaviours.{Correspond}
use Rattle.session_laws.specs.WrittenSpecifications.{IsSortWritten}
use Rattle.session_laws.specs.WrittenData.{IsSortDeclared, IsOperationWritten}
use Rattle.session_laws.proofs.Signatures.{own_sort, own_operation, IsKnownSort}

-- a presentation in which nothing is formal
abbrev pub presented : List Sort → List Operation → List Equation → Presentation
presented sorts operations equations = record {
  signature = record { sorts = sorts; operations = operations };
  equations = equations;
  formal_sorts = [];
  formal_operations = [];
}

-- ---- Presentations without a fault

pub record IsFaultless (p : Presentation) : Type 0 where
  pub sorts : all_differ are_one_sort p.signature.sorts ≡ true
  pub operations : all_differ are_one_operation p.signature.operations ≡ true
  pub few_sorts : nat_lt presentation_limit (length p.signature.sorts) ≡ false
  pub few_operations : nat_lt presentation_limit (length p.signature.operations) ≡ false
  pub few_equations : nat_lt presentation_limit (length p.equations) ≡ false

none_of_three : (a b c : Bool) (x y z : TypeFault) → a ≡ false → b ≡ false → c ≡ false
    → first_fault (fault_if a x) (first_fault (fault_if b y) (fault_if c z)) ≡ None
none_of_three true b c x y z e f g = absurd (cc e)
none_of_three false true c x y z e f g = absurd (cc f)
none_of_three false false true x y z e f g = absurd (cc g)
none_of_three false false false x y z e f g = refl

pub not_large : (p : Presentation) → IsFaultless p → is_too_large p ≡ false
not_large p fine =
    ap (λ (b : Bool). b || (nat_lt presentation_limit (length p.signature.operations)
    || nat_lt presentation_limit (length p.equations))) fine.few_sorts
    ∙ ap (λ (b : Bool). b || nat_lt presentation_limit (length p.equations)) fine.few_operations
    ∙ fine.few_equations

pub no_fault : (place : Place) (name : List ℕ) (p : Presentation) → IsFaultless p → presentation_fault place name p ≡ None
no_fault place name p fine =
    none_of_three (has_sort_clash p) (has_operation_clash p) (is_too_large p) (double_sort place name) (double_operation place name)
    (too_large place name) (ap not fine.sorts) (ap not fine.operations) (not_large p fine)

-- what differs in a longer list differs in a shorter one
front_differs : {A : Type 0} (same : A → A → Bool) (xs ys : List A) → all_differ same (xs ++ ys) ≡ true → all_differ same xs ≡ true
front_differs same [] ys h = refl
front_differs same (x ∷ xs) ys h =
    let parts = and_parts (not (list_any (same x) (xs ++ ys))) (all_differ same (xs ++ ys)) h in
    let none : list_any (same x) (xs ++ ys) ≡ false = not-true (list_any (same x) (xs ++ ys)) parts.0 in
    let front = (or_parts (list_any (same x) xs) (list_any (same x) ys) (sym (list_any-append (same x) xs ys) ∙ none)).0 in
    and_from (not (list_any (same x) xs)) (all_differ same xs) (ap not front) (front_differs same xs ys parts.1)

-- a bound that is not passed
pub not_passed : (limit count more : ℕ) → count ≤ more → nat_lt limit more ≡ false → nat_lt limit count ≡ false
not_passed limit count more fewer h = by (nat_lt limit count) refl
  where
    by : (b : Bool) → nat_lt limit count ≡ b → b ≡ false
    by false is = refl
    by true is =
        let within : more ≤ limit = ltb-false limit more h in
        absurd (omega (arith, within, fewer, std_less is))
      where
        std_less : nat_lt limit count ≡ true → limit < count
        std_less e = ltb-true limit count e

front_few : {A : Type 0} (limit : ℕ) (xs ys : List A) → nat_lt limit (length (xs ++ ys)) ≡ false → nat_lt limit (length xs) ≡ false
front_few limit xs ys h =
    let long = length-append xs ys in
    not_passed limit (length xs) (length (xs ++ ys)) (omega (arith, long)) h

-- with fewer sorts, or fewer operations
fewer_sorts : (sorts more : List Sort) (operations : List Operation) → IsFaultless (presented (sorts ++ more) operations [])
    → IsFaultless (presented sorts operations [])
fewer_sorts sorts more operations fine = record {
  sorts = front_differs are_one_sort sorts more fine.sorts;
  operations = fine.operations;
  few_sorts = front_few presentation_limit sorts more fine.few_sorts;
  few_operations = fine.few_operations;
  few_equations = fine.few_equations;
}

pub fewer_operations : (sorts : List Sort) (operations more : List Operation) → IsFaultless (presented sorts (operations ++ more) [])
    → IsFaultless (presented sorts operations [])
fewer_operations sorts operations more fine = record {
  sorts = fine.sorts;
  operations = front_differs are_one_operation operations more fine.operations;
  few_sorts = fine.few_sorts;
  few_operations = front_few presentation_limit operations more fine.few_operations;
  few_equations = fine.few_equations;
}

-- ---- Sorts

module _ (origin : List ℕ) where
  abbrev one_sort : PlacedName → Sort
  one_sort w = record { name = w.name; origin = origin }

  sorts_further : (s : Sort) (w : PlacedName) (before rest : List Sort) → IsSortDeclared s w
      → (before ++ one_sort w ∷ []) ++ rest ≡ before ++ own_sort origin s ∷ rest
  sorts_further s w before rest named =
      append_assoc before (one_sort w ∷ []) rest
      ∙ ap (λ (name : List ℕ). before ++ record { name = name; origin = origin } ∷ rest) named

  pub sorts_declared : (ss : List Sort) (ws : List PlacedName) (before : List Sort) → Correspond IsSortDeclared ss ws
      → fold (with_sort origin false) (presented before [] []) ws ≡ presented (before ++ map (own_sort origin) ss) [] []
  sorts_declared [] [] before each = ap (λ (ts : List Sort). presented ts [] []) (sym (append-nil before))
  sorts_declared [] (w ∷ ws) before each = absurd each
  sorts_declared (s ∷ ss) [] before each = absurd each
  sorts_declared (s ∷ ss) (w ∷ ws) before each =
      sorts_declared ss ws (before ++ one_sort w ∷ []) each.1
      ∙ ap (λ (ts : List Sort). presented ts [] []) (sorts_further s w before (map (own_sort origin) ss) each.0)

  pub sorts_faultless : (ss : List Sort) (ws : List PlacedName) (before : List Sort) → Correspond IsSortDeclared ss ws
      → IsFaultless (presented (before ++ map (own_sort origin) ss) [] [])
      → fault_along (sort_fault origin false) (with_sort origin false) (presented before [] []) ws ≡ None
  sorts_faultless [] [] before each fine = refl
  sorts_faultless [] (w ∷ ws) before each fine = absurd each
  sorts_faultless (s ∷ ss) [] before each fine = absurd each
  sorts_faultless (s ∷ ss) (w ∷ ws) before each fine =
      let rest : List Sort = map (own_sort origin) ss in
      let whole : IsFaultless (presented ((before ++ one_sort w ∷ []) ++ rest) [] []) =
      subst (λ (ts : List Sort). IsFaultless (presented ts [] [])) (sym (sorts_further s w before rest each.0)) fine in
      none_fails (sort_fault origin false (presented before [] []) w)
      (fault_along (sort_fault origin false) (with_sort origin false) (presented (before ++ one_sort w ∷ []) [] []) ws)
      (no_fault w.place w.name (presented (before ++ one_sort w ∷ []) [] []) (fewer_sorts (before ++ one_sort w ∷ []) rest [] whole))
      (sorts_faultless ss ws (before ++ one_sort w ∷ []) each.1 whole)

  -- ---- Operations, over sorts that are declared

  module _ (signature : Signature) (sorts : List Sort)
      (known : (sort : ℕ) → IsSort signature sort → IsKnownSort sorts signature sort) where
    abbrev number_of : List ℕ → ℕ
    number_of name = first_position (λ (t : Sort). one_name t.name name) sorts

    pub number_is : (sort : ℕ) (name : List ℕ) → IsSort signature sort → name ≡ sort_text signature sort → number_of name ≡ sort
    number_is sort name within named = ap number_of named ∙ (known sort within).numbered

    abbrev AreSorts : List ℕ → Type 0
    AreSorts numbers = (i s : ℕ) → slice_get numbers i ≡ Some s → IsSort signature s

    numbers_are : (numbers : List ℕ) (ws : List PlacedName) → AreSorts numbers → Correspond (IsSortWritten signature) numbers ws
        → map (λ (w : PlacedName). number_of w.name) ws ≡ numbers
    numbers_are [] [] within each = refl
    numbers_are [] (w ∷ ws) within each = absurd each
    numbers_are (n ∷ ns) [] within each = absurd each
    numbers_are (n ∷ ns) (w ∷ ws) within each =
        ap (λ (m : ℕ). m ∷ map (λ (v : PlacedName). number_of v.name) ws) (number_is n w.name (within 0 n refl) each.0)
        ∙ ap (λ (ms : List ℕ). n ∷ ms) (numbers_are ns ws (λ i s at. within (suc i) s at) each.1)

    as_many : (numbers : List ℕ) (ws : List PlacedName) → Correspond (IsSortWritten signature) numbers ws → length ws ≡ length numbers
    as_many [] [] each = refl
    as_many [] (w ∷ ws) each = absurd each
    as_many (n ∷ ns) [] each = absurd each
    as_many (n ∷ ns) (w ∷ ws) each = ap suc (as_many ns ws each.1)

    is_there : (sort : ℕ) (w : PlacedName) (operations : List Operation) → IsSort signature sort → IsSortWritten signature sort w
        → is_sort_name (record { sorts = sorts; operations = operations }) w.name ≡ true
    is_there sort w operations within named =
        ap (λ (name : List ℕ). list_any (λ (t : Sort). one_name t.name name) sorts) named ∙ (known sort within).there

    none_unknown : (numbers : List ℕ) (ws : List PlacedName) (sort : ℕ) (last : PlacedName) (operations : List Operation)
        → AreSorts numbers → Correspond (IsSortWritten signature) numbers ws → IsSort signature sort → IsSortWritten signature sort last
        → unknown_sort_among (presented sorts operations []) (ws ++ last ∷ []) ≡ None
    none_unknown [] [] sort last operations within each there named =
        ap (λ (b : Bool). first_fault (fault_if (not b) (unknown_sort last.place (Some last.name))) None)
        (is_there sort last operations there named)
    none_unknown [] (w ∷ ws) sort last operations within each there named = absurd each
    none_unknown (n ∷ ns) [] sort last operations within each there named = absurd each
    none_unknown (n ∷ ns) (w ∷ ws) sort last operations within each there named =
        ap (λ (b : Bool). first_fault (fault_if (not b) (unknown_sort w.place (Some w.name)))
        (unknown_sort_among (presented sorts operations []) (ws ++ last ∷ [])))
        (is_there n w operations (within 0 n refl) each.0)
        ∙ none_unknown ns ws sort last operations (λ i s at. within (suc i) s at) each.1 there named

    -- the operation that is declared
    abbrev one_operation : WrittenOperation → Operation
    one_operation w = record {
      name = w.name;
      form = w.form;
      arguments = map (λ (s : PlacedName). number_of s.name) w.arguments;
      result = number_of w.result.name;
      origin = origin;
    }

    -- what is asked of an operation
    pub record IsProfiled (o : Operation) : Type 0 where
      pub arguments : AreSorts o.arguments
      pub result : IsSort signature o.result
      pub binary : o.form ≡ infix_form → length o.arguments ≡ 2

    operation_is : (o : Operation) (w : WrittenOperation) → IsProfiled o → IsOperationWritten signature o w
        → one_operation w ≡ own_operation origin o
    operation_is o w profiled is = by w.name w.form (map (λ (s : PlacedName). number_of s.name) w.arguments) (number_of w.result.name)
        is.named is.formed (numbers_are o.arguments w.arguments profiled.arguments is.arguments)
        (number_is o.result w.result.name profiled.result is.result)
      where
        by : (name : List ℕ) (form : Form) (arguments : List ℕ) (result : ℕ) → name ≡ o.name → form ≡ o.form
            → arguments ≡ o.arguments → result ≡ o.result
            → record { name = name; form = form; arguments = arguments; result = result; origin = origin } ≡ own_operation origin o
        by name form arguments result e f g h = cc (e, f, g, h)

    fits : (o : Operation) (w : WrittenOperation) → IsProfiled o → IsOperationWritten signature o w
        → fits_form w.form (length w.arguments) ≡ true
    fits o w profiled is =
        ap (λ (form : Form). fits_form form (length w.arguments)) is.formed
        ∙ by o.form (λ formed. as_many o.arguments w.arguments is.arguments ∙ profiled.binary formed)
      where
        by : (form : Form) → (form ≡ infix_form → length w.arguments ≡ 2) → fits_form form (length w.arguments) ≡ true
        by prefix_form two = refl
        by infix_form two = eq-eqb (length w.arguments) 2 (two refl)

    operations_further : (o : Operation) (w : WrittenOperation) (before rest : List Operation) → IsProfiled o
        → IsOperationWritten signature o w
        → (before ++ one_operation w ∷ []) ++ rest ≡ before ++ own_operation origin o ∷ rest
    operations_further o w before rest profiled is =
        append_assoc before (one_operation w ∷ []) rest
        ∙ ap (λ (p : Operation). before ++ p ∷ rest) (operation_is o w profiled is)

    abbrev pub AreProfiled : List Operation → Type 0
    AreProfiled os = (f : ℕ) (o : Operation) → slice_get os f ≡ Some o → IsProfiled o

    pub operations_declared : (os : List Operation) (ws : List WrittenOperation) (before : List Operation) → AreProfiled os
        → Correspond (IsOperationWritten signature) os ws
        → fold (with_operation origin false) (presented sorts before []) ws
        ≡ presented sorts (before ++ map (own_operation origin) os) []
    operations_declared [] [] before profiled each = ap (λ (ps : List Operation). presented sorts ps []) (sym (append-nil before))
    operations_declared [] (w ∷ ws) before profiled each = absurd each
    operations_declared (o ∷ os) [] before profiled each = absurd each
    operations_declared (o ∷ os) (w ∷ ws) before profiled each =
        operations_declared os ws (before ++ one_operation w ∷ []) (λ f p at. profiled (suc f) p at) each.1
        ∙ ap (λ (ps : List Operation). presented sorts ps [])
        (operations_further o w before (map (own_operation origin) os) (profiled 0 o refl) each.0)

    one_faultless : (o : Operation) (w : WrittenOperation) (before : List Operation) → IsProfiled o → IsOperationWritten signature o w
        → IsFaultless (presented sorts (before ++ one_operation w ∷ []) [])
        → operation_fault origin false (presented sorts before []) w ≡ None
    one_faultless o w before profiled is fine =
        none_fails (fault_if (not (fits_form w.form (length w.arguments))) (no_reading w.place))
        (first_fault (unknown_sort_among (presented sorts before []) (w.arguments ++ w.result ∷ []))
        (presentation_fault w.place w.name (presented sorts (before ++ one_operation w ∷ []) [])))
        (ap (λ (b : Bool). fault_if (not b) (no_reading w.place)) (fits o w profiled is))
        (none_fails (unknown_sort_among (presented sorts before []) (w.arguments ++ w.result ∷ []))
        (presentation_fault w.place w.name (presented sorts (before ++ one_operation w ∷ []) []))
        (none_unknown o.arguments w.arguments o.result w.result before profiled.arguments is.arguments profiled.result is.result)
        (no_fault w.place w.name (presented sorts (before ++ one_operation w ∷ []) []) fine))

    pub operations_faultless : (os : List Operation) (ws : List WrittenOperation) (before : List Operation) → AreProfiled os
        → Correspond (IsOperationWritten signature) os ws
        → IsFaultless (presented sorts (before ++ map (own_operation origin) os) [])
        → fault_along (operation_fault origin false) (with_operation origin false) (presented sorts before []) ws ≡ None
    operations_faultless [] [] before profiled each fine = refl
    operations_faultless [] (w ∷ ws) before profiled each fine = absurd each
    operations_faultless (o ∷ os) [] before profiled each fine = absurd each
    operations_faultless (o ∷ os) (w ∷ ws) before profiled each fine =
        let rest : List Operation = map (own_operation origin) os in
        let whole : IsFaultless (presented sorts ((before ++ one_operation w ∷ []) ++ rest) []) =
        subst (λ (ps : List Operation). IsFaultless (presented sorts ps []))
        (sym (operations_further o w before rest (profiled 0 o refl) each.0)) fine in
        none_fails (operation_fault origin false (presented sorts before []) w)
        (fault_along (operation_fault origin false) (with_operation origin false) (presented sorts (before ++ one_operation w ∷ []) []) ws)
        (one_faultless o w before (profiled 0 o refl) each.0 (fewer_operations sorts (before ++ one_operation w ∷ []) rest whole))
        (operations_faultless os ws (before ++ one_operation w ∷ []) (λ f p at. profiled (suc f) p at) each.1 whole)
