-- Labels, menus and heads have the same texts over data that are spelled alike, and states but for the names of processes.
use Rattle.std.proofs.Common.{◌≡◌, ◌+◌, ℕ, suc, List, [], ◌∷◌, ◌++◌, length, map, Option, None, Some, refl, ap, ◌∙◌}
use Rattle.std.specs.Prelude.{slice_get, codes, decimal}
use Rattle.lotos_base.specs.Signature.{Sort, Signature}
use Rattle.lotos_base.specs.Term.{Term}
use Rattle.lotos_base.specs.Equation.{Equation, Data, Variable}
use Rattle.behaviour_semantics.specs.Behaviour.{Behaviour, stop, exit_with, action, inner_action, guard, choice, parallel, hide, enable, disable, let_be, choose_value, choose_gate, par_gate, call, relabel, Test, Offer, give, ask, ExitValue, exit_value, any_of, SynchronisationSet, no_gates, all_gates, at_gates, asked_variables, let_variables, Specification}
use Rattle.behaviour_semantics.specs.Label.{Label, inner_event, gate_event, exit_event}
use Rattle.behaviour_semantics.specs.Solving.{Entry}
use Rattle.certificate_theory.specs.SameData.{AreSameEquations}
use Rattle.declaration_laws.specs.SameSpecification.{AreSameSpecifications}
use Rattle.printed_texts.specs.Brackets.{round, square, commas}
use Rattle.printed_texts.specs.BehaviourText.{Naming, process_names, gate_text, gates_text, called_text, declared_text, test_text, predicate_text, offer_text, offers_text, exit_value_text, round_list, square_list, sign_text, enable_sign, binding_text, pair_text, unit_text, between_blanks, behaviour_text, state_text}
use Rattle.printed_texts.specs.MenuText.{entry_term_text, name_text, values_text, exit_values_text, label_text, sorted_texts, for_text, condition_text, if_text, entry_text, lines_text, menu_text}
use Rattle.printed_texts.specs.ReportLines.{head_text}
use Rattle.printed_texts.specs.TermText.{sort_text, numbered_text, term_text}
use Rattle.session_laws.specs.SameSpelling.{AreSortsSpelledAlike, AreSignaturesSpelledAlike, AreDataSpelledAlike}
use Rattle.session_laws.specs.SameTextsLaws.{naming_with, TextsAgreeButForProcesses}
use Rattle.session_laws.proofs.SameMoves.{pointwise}
use Rattle.session_laws.proofs.SamePlaces.{as_many_operations}
use Rattle.session_laws.proofs.SpelledAlike.{same_data, spelling_turned, sorts_printed, terms_printed}

module _ (signature other : Signature) (alike : AreSignaturesSpelledAlike signature other) where
  sorts : sort_text signature ≡ sort_text other
  sorts = pointwise (sort_text signature) (sort_text other) (sorts_printed signature other alike)

  terms : term_text signature ≡ term_text other
  terms = terms_printed signature other alike

  -- ---- Labels and menus

  entries : entry_term_text signature ≡ entry_term_text other
  entries = λ i t. terms i [] t

  values_printed : (values : List Term) → values_text signature values ≡ values_text other values
  values_printed [] = refl
  values_printed (value ∷ values) =
      let rest = values_printed values in
      (λ i. codes " !" ++ entries i value ++ rest i)

  exits_printed : (values : List Term) → exit_values_text signature values ≡ exit_values_text other values
  exits_printed [] = refl
  exits_printed (value ∷ values) = λ i. round (commas (map (entries i) (value ∷ values)))

  pub label_printed : (gates : List (List ℕ)) (label : Label) → label_text signature gates label ≡ label_text other gates label
  label_printed gates inner_event = refl
  label_printed gates (gate_event gate values) =
      ap (λ (text : List ℕ). name_text (slice_get gates gate) ++ text) (values_printed values)
  label_printed gates (exit_event values) = ap (λ (text : List ℕ). codes "exit" ++ text) (exits_printed values)

  sorted_printed : (number : ℕ) (wanted : List ℕ) → sorted_texts signature number wanted ≡ sorted_texts other number wanted
  sorted_printed number [] = refl
  sorted_printed number (sort ∷ wanted) =
      let rest = sorted_printed (number + 1) wanted in
      (λ i. (numbered_text number ++ codes ":" ++ sorts i sort) ∷ rest i)

  for_printed : (wanted : List ℕ) → for_text signature wanted ≡ for_text other wanted
  for_printed [] = refl
  for_printed (sort ∷ wanted) = ap (λ (texts : List (List ℕ)). codes " for " ++ commas texts) (sorted_printed 0 (sort ∷ wanted))

  conditions : condition_text signature ≡ condition_text other
  conditions = λ i test. entries i test.left ++ codes " = " ++ entries i test.right

  if_printed : (tests : List Test) → if_text signature tests ≡ if_text other tests
  if_printed [] = refl
  if_printed (test ∷ tests) = λ i. codes " if " ++ commas (map (conditions i) (test ∷ tests))

  entry_printed : (gates : List (List ℕ)) (entry : Entry) → entry_text signature gates entry ≡ entry_text other gates entry
  entry_printed gates entry =
      let label = label_printed gates entry.label in
      let for = for_printed entry.variables in
      let tests = if_printed entry.conditions in
      (λ i. label i ++ for i ++ tests i)

  lines_printed : (gates : List (List ℕ)) (number : ℕ) (menu : List Entry)
      → lines_text signature gates number menu ≡ lines_text other gates number menu
  lines_printed gates number [] = refl
  lines_printed gates number (entry ∷ menu) =
      let first = entry_printed gates entry in
      let rest = lines_printed gates (number + 1) menu in
      (λ i. (decimal number ++ codes ": " ++ first i ++ codes "\n") ++ rest i)

  pub menu_printed : (gates : List (List ℕ)) (menu : List Entry) → menu_text signature gates menu ≡ menu_text other gates menu
  menu_printed gates menu =
      ap (λ (text : List ℕ). codes "events " ++ decimal (length menu) ++ codes "\n" ++ text) (lines_printed gates 1 menu)

  -- ---- Behaviours

  module _ (gates processes : List (List ℕ)) where
    abbrev over : Signature → Naming
    over s = record { signature = s; gates = gates; processes = processes; truth = None }

    declared : declared_text (over signature) ≡ declared_text (over other)
    declared = λ i x. x.name ++ codes ":" ++ sorts i x.sort

    test_printed : (names : List Variable) (test : Test)
        → test_text (over signature) names test ≡ test_text (over other) names test
    test_printed names test = λ i. square (terms i names test.left ++ codes " = " ++ terms i names test.right)

    predicate_printed : (names : List Variable) (test : Option Test)
        → predicate_text (over signature) names test ≡ predicate_text (over other) names test
    predicate_printed names None = refl
    predicate_printed names (Some test) = ap (λ (text : List ℕ). codes " " ++ text) (test_printed names test)

    offer_printed : (names : List Variable) (offer : Offer)
        → offer_text (over signature) names offer ≡ offer_text (over other) names offer
    offer_printed names (give value) = λ i. codes " !" ++ terms i names value
    offer_printed names (ask x) = λ i. codes " ?" ++ declared i x

    offers_printed : (names : List Variable) (offers : List Offer)
        → offers_text (over signature) names offers ≡ offers_text (over other) names offers
    offers_printed names [] = refl
    offers_printed names (offer ∷ offers) =
        let first = offer_printed names offer in
        let rest = offers_printed names offers in
        (λ i. first i ++ rest i)

    exit_value_printed : (names : List Variable) (value : ExitValue)
        → exit_value_text (over signature) names value ≡ exit_value_text (over other) names value
    exit_value_printed names (exit_value value) = λ i. terms i names value
    exit_value_printed names (any_of sort) = λ i. codes "any " ++ sorts i sort

    exit_values : (names : List Variable) → exit_value_text (over signature) names ≡ exit_value_text (over other) names
    exit_values names = pointwise (exit_value_text (over signature) names) (exit_value_text (over other) names) (exit_value_printed names)

    signs : (meet : SynchronisationSet) → sign_text (over signature) meet ≡ sign_text (over other) meet
    signs no_gates = refl
    signs all_gates = refl
    signs (at_gates gs) = refl

    sign_printed : (variables : List Variable) → enable_sign (over signature) variables ≡ enable_sign (over other) variables
    sign_printed [] = refl
    sign_printed (x ∷ variables) = λ i. codes ">> accept " ++ commas (map (declared i) (x ∷ variables)) ++ codes " in"

    bindings_printed : (names : List Variable) → binding_text (over signature) names ≡ binding_text (over other) names
    bindings_printed names = λ i bound. declared i bound.0 ++ codes " = " ++ terms i names bound.1

    pub behaviour_printed : (names : List Variable) (b : Behaviour)
        → behaviour_text (over signature) names b ≡ behaviour_text (over other) names b
    behaviour_printed names stop = refl
    behaviour_printed names (exit_with values) = λ i. codes "exit" ++ round_list (map (exit_values names i) values)
    behaviour_printed names (action gate offers test next) =
        let offered = offers_printed names offers in
        let tested = predicate_printed (asked_variables offers ++ names) test in
        let rest = behaviour_printed (asked_variables offers ++ names) next in
        (λ i. gate_text (over signature) gate ++ offered i ++ tested i ++ codes "; " ++ unit_text next (rest i))
    behaviour_printed names (inner_action next) =
        ap (λ (text : List ℕ). codes "i; " ++ unit_text next text) (behaviour_printed names next)
    behaviour_printed names (guard test next) =
        let tested = test_printed names test in
        let rest = behaviour_printed names next in
        (λ i. tested i ++ codes " -> " ++ unit_text next (rest i))
    behaviour_printed names (choice left right) =
        let one = behaviour_printed names left in
        let two = behaviour_printed names right in
        (λ i. unit_text left (one i) ++ between_blanks (codes "[]") ++ unit_text right (two i))
    behaviour_printed names (parallel meet left right) =
        let one = behaviour_printed names left in
        let sign = signs meet in
        let two = behaviour_printed names right in
        (λ i. unit_text left (one i) ++ between_blanks (sign i) ++ unit_text right (two i))
    behaviour_printed names (hide gs next) =
        ap (λ (text : List ℕ). codes "hide " ++ gates_text (over signature) gs ++ codes " in " ++ text) (behaviour_printed names next)
    behaviour_printed names (enable left variables right) =
        let one = behaviour_printed names left in
        let sign = sign_printed variables in
        let two = behaviour_printed (variables ++ names) right in
        (λ i. unit_text left (one i) ++ between_blanks (sign i) ++ unit_text right (two i))
    behaviour_printed names (disable left right) =
        let one = behaviour_printed names left in
        let two = behaviour_printed names right in
        (λ i. unit_text left (one i) ++ between_blanks (codes "[>") ++ unit_text right (two i))
    behaviour_printed names (let_be bindings next) =
        let bound = bindings_printed names in
        let rest = behaviour_printed (let_variables bindings ++ names) next in
        (λ i. codes "let " ++ commas (map (bound i) bindings) ++ codes " in " ++ rest i)
    behaviour_printed names (choose_value x next) =
        let rest = behaviour_printed (x ∷ names) next in
        (λ i. codes "choice " ++ declared i x ++ codes " [] " ++ rest i)
    behaviour_printed names (choose_gate gate gs next) =
        ap (λ (text : List ℕ). codes "choice " ++ gate_text (over signature) gate ++ codes " in "
        ++ square (gates_text (over signature) gs) ++ codes " [] " ++ text) (behaviour_printed names next)
    behaviour_printed names (par_gate gate gs meet next) =
        let sign = signs meet in
        let rest = behaviour_printed names next in
        (λ i. codes "par " ++ gate_text (over signature) gate ++ codes " in " ++ square (gates_text (over signature) gs)
        ++ between_blanks (sign i) ++ rest i)
    behaviour_printed names (call process gs values) =
        λ i. called_text (over signature) process ++ square_list (map (gate_text (over signature)) gs)
        ++ round_list (map (terms i names) values)
    behaviour_printed names (relabel pairs next) =
        ap (λ (text : List ℕ). codes "relabel " ++ commas (map (pair_text (over signature)) pairs) ++ codes " in " ++ text)
        (behaviour_printed names next)

-- ---- Heads

as_many_sorts : (ss others : List Sort) → AreSortsSpelledAlike ss others → length ss ≡ length others
as_many_sorts [] [] alike = refl
as_many_sorts (s ∷ ss) (r ∷ others) alike = ap suc (as_many_sorts ss others alike.1)
as_many_sorts [] (r ∷ others) alike = absurd alike
as_many_sorts (s ∷ ss) [] alike = absurd alike

as_many_equations : (equations others : List Equation) → AreSameEquations equations others → length equations ≡ length others
as_many_equations [] [] same = refl
as_many_equations (e ∷ equations) (f ∷ others) same = ap suc (as_many_equations equations others same.1)
as_many_equations [] (f ∷ others) same = absurd same
as_many_equations (e ∷ equations) [] same = absurd same

pub head_printed : (data_ other : Data) (name : List ℕ) → AreDataSpelledAlike data_ other → head_text name data_ ≡ head_text name other
head_printed data_ other name alike =
    let ss = as_many_sorts data_.signature.sorts other.signature.sorts alike.signatures.sorts in
    let os = as_many_operations data_.signature.operations other.signature.operations (same_data data_ other alike).operations in
    let es = as_many_equations data_.equations other.equations alike.equations in
    (λ i.
    codes "accepted " ++ name ++ codes "\ndata: " ++ decimal (ss i) ++ codes " sorts, "
    ++ decimal (os i) ++ codes " operations, " ++ decimal (es i) ++ codes " equations\n")

-- ---- All of it

state_printed : (data_ other : Data) (one second : Specification) (b : Behaviour) → AreDataSpelledAlike data_ other
    → AreSameSpecifications one second → behaviour_text (naming_with data_ one second) [] b ≡ state_text other.signature second b
state_printed data_ other one second b alike same =
    behaviour_printed data_.signature other.signature alike.signatures one.gate_names (process_names second) [] b
    ∙ ap (λ (gates : List (List ℕ)).
    behaviour_text (record { signature = other.signature; gates = gates; processes = process_names second; truth = None }) [] b)
    same.gate_names

pub texts_agree : TextsAgreeButForProcesses
texts_agree = record {
  same = same_data;
  mutual_spelling = spelling_turned;
  terms = λ data_ other names t alike i. terms data_.signature other.signature alike.signatures i names t;
  labels = λ data_ other gates label alike. label_printed data_.signature other.signature alike.signatures gates label;
  menus = λ data_ other gates menu alike. menu_printed data_.signature other.signature alike.signatures gates menu;
  heads = head_printed;
  states = state_printed;
  same_names = λ data_ other one second b alike same names.
      ap (λ (processes : List (List ℕ)).
      behaviour_text (record { signature = data_.signature; gates = one.gate_names; processes = processes; truth = None }) [] b) names
      ∙ state_printed data_ other one second b alike same;
}
