-- The bytes of the texts of terms and behaviours.
use Rattle.std.proofs.Common.{◌≡◌, ◌+◌, ◌<◌, ◌%◌, ◌/◌, ℕ, suc, zero, List, [], ◌∷◌, ◌++◌, map, Bool, true, false, ◌||◌, not, nat_eq, nat_lt, ◌==◌, if◌then◌else◌, Option, Some, None, codes, decimal, slice_get, refl, ap, arith, eqb-true, ltb-true, lt-ltb, mod-lt}
use Rattle.std.specs.List.{list_any, list_all}
use Rattle.std.specs.Fmt.{digits, digits_onto, digit_glyph}
use Rattle.std.proofs.lemmas.Bool.{and_parts, and_from, or_parts}
use Rattle.lotos_base.specs.Signature.{Signature, Sort, Operation, Form, prefix_form, infix_form}
use Rattle.lotos_base.specs.Twins.{has_twin}
use Rattle.lotos_base.specs.Term.{Term, variable, node, Terms, no_terms, term_then}
use Rattle.lotos_base.specs.Equation.{Variable}
use Rattle.behaviour_semantics.specs.Behaviour.{Behaviour, stop, exit_with, action, inner_action, guard, choice, parallel, hide, enable, disable, let_be, choose_value, choose_gate, par_gate, call, relabel, Test, Offer, give, ask, ExitValue, exit_value, any_of, SynchronisationSet, no_gates, all_gates, at_gates, Process, Specification, asked_variables, let_variables}
use Rattle.behaviour_semantics.specs.WellFormed.{Every}
use Rattle.behaviour_semantics.proofs.EveryLemmas.{every_front, every_back}
use Rattle.behaviour_semantics.proofs.InstanceLemmas.{every_at}
use Rattle.behaviour_semantics.proofs.ListLemmas.{Every-append, Every-weaker}
use Rattle.printed_texts.specs.Brackets.{begins_with_sign, spaced, round, square, bracketed, after_commas, commas}
use Rattle.printed_texts.specs.TermText.{sort_name, sort_text, variable_text, Phrase, phrase_text, operand_text, of_text, arguments_text, prefix_phrase, operator_text, between_text, infix_phrase, application_phrase, node_phrase, phrase_of, phrases_of, term_text}
use Rattle.printed_texts.specs.MenuText.{name_text}
use Rattle.printed_texts.specs.BehaviourText.{Naming, naming_in, gate_text, gates_text, process_names, called_text, declared_text, declarations_text, equation_text, test_text, predicate_text, offers_text, exit_value_text, round_list, square_list, sign_text, enable_sign, binding_text, pair_text, call_text, stands_in_brackets, unit_text, between_blanks, behaviour_text, state_text}
use Rattle.session_histories.specs.BoundNames.{names_of_variables, bound_names}
use Rattle.session_histories.specs.TextBytes.{AllPass, is_printable, IsOnOneLine}
use Rattle.session_histories.specs.StateTexts.{HaveNames, StateTextsAreOfNames}

-- variables whose names have a property
named : (IsName : List ℕ → Type 0) (xs : List Variable) → Every IsName (names_of_variables xs)
    → Every (λ (x : Variable). IsName x.name) xs
named IsName [] all = tt
named IsName (x ∷ xs) all = (all.0, named IsName xs all.1)

module _ (passes : ℕ → Bool) (fixed : (byte : ℕ) → is_printable byte ≡ true → passes byte ≡ true) where
  abbrev Fine : List ℕ → Type 0
  Fine text = AllPass passes text

  abbrev pub IsPassed : ℕ → Type 0
  IsPassed byte = passes byte ≡ true

  -- ---- Texts that are joined

  sign : (text : List ℕ) → list_all is_printable text ≡ true → Fine text
  sign [] is = tt
  sign (byte ∷ text) is =
      let parts = and_parts (is_printable byte) (list_all is_printable text) is in (fixed byte parts.0, sign text parts.1)

  two : (text more : List ℕ) → Fine text → Fine more → Fine (text ++ more)
  two text more first second = Every-append IsPassed text more first second

  three : (text more last : List ℕ) → Fine text → Fine more → Fine last → Fine (text ++ more ++ last)
  three text more last first second third = two (text ++ more) last (two text more first second) third

  -- ---- Numbers

  glyph_passes : (digit : ℕ) → digit < 10 → passes (digit_glyph false digit) ≡ true
  glyph_passes digit small = by (nat_lt digit 10) (lt-ltb digit 10 small)
    where
      by : (b : Bool) → b ≡ true → passes (if b then 48 + digit else 87 + digit) ≡ true
      by true is =
          fixed (48 + digit)
          (and_from (nat_lt 31 (48 + digit)) (nat_lt (48 + digit) 127) (lt-ltb 31 (48 + digit) (omega arith))
          (lt-ltb (48 + digit) 127 (omega (arith, small))))
      by false is = absurd (cc is)

  digits_fine : (count n : ℕ) (more : List ℕ) → Fine more → Fine (digits_onto count 10 false n more)
  digits_fine zero n more fine = fine
  digits_fine (suc count) n more fine =
      by (n / 10 == 0) (digits_fine count (n / 10) (digit_glyph false (n % 10) ∷ more) here)
    where
      here : Fine (digit_glyph false (n % 10) ∷ more)
      here = (glyph_passes (n % 10) (mod-lt n (omega arith)), fine)

      by : (b : Bool) → Fine (digits_onto count 10 false (n / 10) (digit_glyph false (n % 10) ∷ more))
          → Fine (if b then digit_glyph false (n % 10) ∷ more else digits_onto count 10 false (n / 10) (digit_glyph false (n % 10) ∷ more))
      by true rest = here
      by false rest = rest

  decimal_fine : (n : ℕ) → Fine (decimal n)
  unfolding digits
  decimal_fine n = digits_fine 64 n [] tt

  -- ---- Brackets and commas

  spaced_fine : (code : ℕ) (text : List ℕ) → Fine text → Fine (spaced code text)
  spaced_fine code text fine = by (begins_with_sign code text)
    where
      by : (b : Bool) → Fine (if b then codes " " ++ text else text)
      by true = two (codes " ") text (sign (codes " ") refl) fine
      by false = fine

  round_fine : (text : List ℕ) → Fine text → Fine (round text)
  round_fine text fine =
      three (codes "(") (spaced 42 text) (codes ")") (sign (codes "(") refl) (spaced_fine 42 text fine) (sign (codes ")") refl)

  square_fine : (text : List ℕ) → Fine text → Fine (square text)
  square_fine text fine =
      three (codes "[") (spaced 62 text) (codes "]") (sign (codes "[") refl) (spaced_fine 62 text fine) (sign (codes "]") refl)

  bracketed_fine : (needed : Bool) (text : List ℕ) → Fine text → Fine (bracketed needed text)
  bracketed_fine true text fine = round_fine text fine
  bracketed_fine false text fine = fine

  after_commas_fine : (texts : List (List ℕ)) → Every Fine texts → Fine (after_commas texts)
  after_commas_fine [] all = tt
  after_commas_fine (text ∷ texts) all =
      three (codes ", ") text (after_commas texts) (sign (codes ", ") refl) all.0 (after_commas_fine texts all.1)

  commas_fine : (texts : List (List ℕ)) → Every Fine texts → Fine (commas texts)
  commas_fine [] all = tt
  commas_fine (text ∷ texts) all = two text (after_commas texts) all.0 (after_commas_fine texts all.1)

  mapped_fine : {X : Type 0} (P : X → Type 0) (f : X → List ℕ) → ((x : X) → P x → Fine (f x)) → (xs : List X) → Every P xs
      → Every Fine (map f xs)
  mapped_fine P f so [] all = tt
  mapped_fine P f so (x ∷ xs) all = (so x all.0, mapped_fine P f so xs all.1)

  each_fine : {X : Type 0} (f : X → List ℕ) → ((x : X) → Fine (f x)) → (xs : List X) → Every Fine (map f xs)
  each_fine f so [] = tt
  each_fine f so (x ∷ xs) = (so x, each_fine f so xs)

  name_there : (names : List (List ℕ)) (number : ℕ) → Every Fine names → Fine (name_text (slice_get names number))
  name_there names number all = by (slice_get names number) refl
    where
      by : (found : Option (List ℕ)) → slice_get names number ≡ found → Fine (name_text found)
      by None e = tt
      by (Some name) e = every_at Fine names number name all e

  -- ---- Terms

  abbrev IsFineVariable : Variable → Type 0
  IsFineVariable x = Fine x.name

  variable_fine : (names : List Variable) (number : ℕ) → Every IsFineVariable names → Fine (variable_text names number)
  variable_fine [] number all =
      two (codes "$") (decimal (number + 1)) (sign (codes "$") refl) (decimal_fine (number + 1))
  variable_fine (x ∷ names) number all = by (nat_eq x.number number) (variable_fine names number all.1)
    where
      by : (b : Bool) → Fine (variable_text names number) → Fine (if b then x.name else variable_text names number)
      by true rest = all.0
      by false rest = rest

  module _ (signature : Signature) (sorts : Every (λ (s : Sort). Fine s.name) signature.sorts)
      (operations : Every (λ (o : Operation). Fine o.name) signature.operations) where
    sort_fine : (number : ℕ) → Fine (sort_text signature number)
    sort_fine number = by (slice_get signature.sorts number) refl
      where
        by : (found : Option Sort) → slice_get signature.sorts number ≡ found → Fine (sort_name found)
        by None e = tt
        by (Some sort) e = every_at (λ (s : Sort). Fine s.name) signature.sorts number sort sorts e

    of_fine : (operation : Operation) → Fine (of_text signature operation)
    of_fine operation = by (has_twin signature operation)
      where
        by : (b : Bool) → Fine (if b then codes " of " ++ sort_text signature operation.result else [])
        by true = two (codes " of ") (sort_text signature operation.result) (sign (codes " of ") refl) (sort_fine operation.result)
        by false = tt

    abbrev IsFinePhrase : Phrase → Type 0
    IsFinePhrase phrase = Fine phrase.text

    arguments_fine : (phrases : List Phrase) → Every IsFinePhrase phrases → Fine (arguments_text phrases)
    arguments_fine [] all = tt
    arguments_fine (phrase ∷ phrases) all =
        round_fine (commas (map phrase_text (phrase ∷ phrases)))
        (commas_fine (map phrase_text (phrase ∷ phrases))
        (mapped_fine IsFinePhrase phrase_text (λ (p : Phrase) is. is) (phrase ∷ phrases) all))

    prefix_fine : (operation : Operation) (phrases : List Phrase) → Fine operation.name → Every IsFinePhrase phrases
        → IsFinePhrase (prefix_phrase signature operation phrases)
    prefix_fine operation phrases fine all =
        three operation.name (arguments_text phrases) (of_text signature operation) fine (arguments_fine phrases all) (of_fine operation)

    operator_fine : (name : List ℕ) → Fine name → Fine (operator_text name)
    operator_fine name fine = three (codes " ") name (codes " ") (sign (codes " ") refl) fine (sign (codes " ") refl)

    operand_fine : (phrase : Phrase) → IsFinePhrase phrase → Fine (operand_text phrase)
    operand_fine phrase fine = bracketed_fine phrase.is_infix phrase.text fine

    infix_fine : (operation : Operation) (left right : Phrase) → Fine operation.name → IsFinePhrase left → IsFinePhrase right
        → IsFinePhrase (infix_phrase signature operation left right)
    infix_fine operation left right fine first second =
        two (bracketed (has_twin signature operation) (between_text operation left right)) (of_text signature operation)
        (bracketed_fine (has_twin signature operation) (between_text operation left right)
        (three (operand_text left) (operator_text operation.name) (operand_text right) (operand_fine left first)
        (operator_fine operation.name fine) (operand_fine right second))) (of_fine operation)

    application_fine : (operation : Operation) (form : Form) (phrases : List Phrase) → Fine operation.name → Every IsFinePhrase phrases
        → IsFinePhrase (application_phrase signature operation form phrases)
    application_fine operation prefix_form phrases fine all = prefix_fine operation phrases fine all
    application_fine operation infix_form [] fine all = prefix_fine operation [] fine all
    application_fine operation infix_form (left ∷ []) fine all = prefix_fine operation (left ∷ []) fine all
    application_fine operation infix_form (left ∷ right ∷ []) fine all = infix_fine operation left right fine all.0 all.1.0
    application_fine operation infix_form (left ∷ right ∷ third ∷ phrases) fine all =
        prefix_fine operation (left ∷ right ∷ third ∷ phrases) fine all

    node_fine : (number : ℕ) (phrases : List Phrase) → Every IsFinePhrase phrases
        → IsFinePhrase (node_phrase signature (slice_get signature.operations number) phrases)
    node_fine number phrases all = by (slice_get signature.operations number) refl
      where
        by : (found : Option Operation) → slice_get signature.operations number ≡ found → IsFinePhrase (node_phrase signature found phrases)
        by None e = tt
        by (Some operation) e =
            application_fine operation operation.form phrases
            (every_at (λ (o : Operation). Fine o.name) signature.operations number operation operations e) all

    mutual
      phrase_fine : (names : List Variable) → Every IsFineVariable names → (term : Term) → IsFinePhrase (phrase_of signature names term)
      phrase_fine names all (variable number sort) = variable_fine names number all
      phrase_fine names all (node number terms) = node_fine number (phrases_of signature names terms) (phrases_fine names all terms)

      phrases_fine : (names : List Variable) → Every IsFineVariable names → (terms : Terms)
          → Every IsFinePhrase (phrases_of signature names terms)
      phrases_fine names all no_terms = tt
      phrases_fine names all (term_then term terms) = (phrase_fine names all term, phrases_fine names all terms)

  -- ---- Behaviours

  module _ (signature : Signature) (specification : Specification) (sorts : Every (λ (s : Sort). Fine s.name) signature.sorts)
      (operations : Every (λ (o : Operation). Fine o.name) signature.operations) (gates : Every Fine specification.gate_names)
      (processes : Every (λ (p : Process). Fine p.name) specification.processes) where
    abbrev naming : Naming
    naming = naming_in signature specification

    abbrev AreFine : List Variable → Type 0
    AreFine names = Every IsFineVariable names

    term_fine : (names : List Variable) → AreFine names → (term : Term) → Fine (term_text signature names term)
    term_fine names all term = phrase_fine signature sorts operations names all term

    gate_fine : (gate : ℕ) → Fine (gate_text naming gate)
    gate_fine gate = name_there specification.gate_names gate gates

    gates_fine : (listed : List ℕ) → Fine (gates_text naming listed)
    gates_fine listed = commas_fine (map (gate_text naming) listed) (each_fine (gate_text naming) gate_fine listed)

    process_fine : (number : ℕ) → Fine (called_text naming number)
    process_fine number =
        name_there (process_names specification) number
        (mapped_fine (λ (p : Process). Fine p.name) (λ (p : Process). p.name) (λ p fine. fine) specification.processes processes)

    declared_fine : (x : Variable) → Fine x.name → Fine (declared_text naming x)
    declared_fine x fine =
        three x.name (codes ":") (sort_text signature x.sort) fine (sign (codes ":") refl) (sort_fine signature sorts operations x.sort)

    declarations_fine : (variables : List Variable) → AreFine variables → Fine (declarations_text naming variables)
    declarations_fine variables all =
        commas_fine (map (declared_text naming) variables) (mapped_fine IsFineVariable (declared_text naming) declared_fine variables all)

    test_fine : (names : List Variable) → AreFine names → (test : Test) → Fine (test_text naming names test)
    test_fine names all test =
        square_fine (equation_text naming names test)
        (three (term_text signature names test.left) (codes " = ") (term_text signature names test.right)
        (term_fine names all test.left) (sign (codes " = ") refl) (term_fine names all test.right))

    predicate_fine : (names : List Variable) → AreFine names → (test : Option Test) → Fine (predicate_text naming names test)
    predicate_fine names all None = tt
    predicate_fine names all (Some test) =
        two (codes " ") (test_text naming names test) (sign (codes " ") refl) (test_fine names all test)

    offers_fine : (names : List Variable) → AreFine names → (offers : List Offer) → AreFine (asked_variables offers)
        → Fine (offers_text naming names offers)
    offers_fine names all [] asked = tt
    offers_fine names all (give value ∷ offers) asked =
        three (codes " !") (term_text signature names value) (offers_text naming names offers) (sign (codes " !") refl)
        (term_fine names all value) (offers_fine names all offers asked)
    offers_fine names all (ask x ∷ offers) asked =
        three (codes " ?") (declared_text naming x) (offers_text naming names offers) (sign (codes " ?") refl)
        (declared_fine x asked.0) (offers_fine names all offers asked.1)

    exit_value_fine : (names : List Variable) → AreFine names → (value : ExitValue) → Fine (exit_value_text naming names value)
    exit_value_fine names all (exit_value value) = term_fine names all value
    exit_value_fine names all (any_of sort) =
        two (codes "any ") (sort_text signature sort) (sign (codes "any ") refl) (sort_fine signature sorts operations sort)

    round_list_fine : (texts : List (List ℕ)) → Every Fine texts → Fine (round_list texts)
    round_list_fine [] all = tt
    round_list_fine (text ∷ texts) all = round_fine (commas (text ∷ texts)) (commas_fine (text ∷ texts) all)

    square_list_fine : (texts : List (List ℕ)) → Every Fine texts → Fine (square_list texts)
    square_list_fine [] all = tt
    square_list_fine (text ∷ texts) all = square_fine (commas (text ∷ texts)) (commas_fine (text ∷ texts) all)

    sign_fine : (meet : SynchronisationSet) → Fine (sign_text naming meet)
    sign_fine no_gates = sign (codes "|||") refl
    sign_fine all_gates = sign (codes "||") refl
    sign_fine (at_gates listed) =
        three (codes "|") (square (gates_text naming listed)) (codes "|") (sign (codes "|") refl)
        (square_fine (gates_text naming listed) (gates_fine listed)) (sign (codes "|") refl)

    enable_fine : (variables : List Variable) → AreFine variables → Fine (enable_sign naming variables)
    enable_fine [] all = sign (codes ">>") refl
    enable_fine (x ∷ variables) all =
        three (codes ">> accept ") (declarations_text naming (x ∷ variables)) (codes " in") (sign (codes ">> accept ") refl)
        (declarations_fine (x ∷ variables) all) (sign (codes " in") refl)

    bindings_fine : (names : List Variable) → AreFine names → (bindings : List (Variable × Term)) → AreFine (let_variables bindings)
        → Every Fine (map (binding_text naming names) bindings)
    bindings_fine names all [] fine = tt
    bindings_fine names all (bound ∷ bindings) fine = (
      three (declared_text naming bound.0) (codes " = ") (term_text signature names bound.1) (declared_fine bound.0 fine.0)
          (sign (codes " = ") refl) (term_fine names all bound.1),
      bindings_fine names all bindings fine.1,
    )

    pair_fine : (pair : ℕ × ℕ) → Fine (pair_text naming pair)
    pair_fine pair =
        three (gate_text naming pair.1) (codes " for ") (gate_text naming pair.0) (gate_fine pair.1) (sign (codes " for ") refl)
        (gate_fine pair.0)

    call_fine : (names : List Variable) → AreFine names → (process : ℕ) (listed : List ℕ) (values : List Term)
        → Fine (call_text naming names process listed values)
    call_fine names all process listed values =
        three (called_text naming process) (square_list (map (gate_text naming) listed))
        (round_list (map (term_text signature names) values)) (process_fine process)
        (square_list_fine (map (gate_text naming) listed) (each_fine (gate_text naming) gate_fine listed))
        (round_list_fine (map (term_text signature names) values)
        (each_fine (term_text signature names) (λ (value : Term). term_fine names all value) values))

    unit_fine : (part : Behaviour) (text : List ℕ) → Fine text → Fine (unit_text part text)
    unit_fine part text fine = bracketed_fine (stands_in_brackets part) text fine

    between_fine : (text : List ℕ) → Fine text → Fine (between_blanks text)
    between_fine text fine = three (codes " ") text (codes " ") (sign (codes " ") refl) fine (sign (codes " ") refl)

    -- two parts with a sign between them
    binary_fine : (left right : Behaviour) (first between second : List ℕ) → Fine first → Fine between → Fine second
        → Fine (unit_text left first ++ between_blanks between ++ unit_text right second)
    binary_fine left right first between second fine middle last =
        three (unit_text left first) (between_blanks between) (unit_text right second) (unit_fine left first fine)
        (between_fine between middle) (unit_fine right second last)

    -- variables with these names
    fine_front : (xs : List Variable) (names : List (List ℕ)) → Every Fine (names_of_variables xs ++ names) → AreFine xs
    fine_front xs names all = named Fine xs (every_front Fine (names_of_variables xs) names all)

    inside : (xs names : List Variable) → AreFine xs → AreFine names → AreFine (xs ++ names)
    inside xs names first second = Every-append IsFineVariable xs names first second

    front : (xs ys : List (List ℕ)) → Every Fine (xs ++ ys) → Every Fine xs
    front xs ys all = every_front Fine xs ys all

    back : (xs ys : List (List ℕ)) → Every Fine (xs ++ ys) → Every Fine ys
    back xs ys all = every_back Fine xs ys all

    behaviour_fine : (names : List Variable) → AreFine names → (b : Behaviour) → Every Fine (bound_names b)
        → Fine (behaviour_text naming names b)
    behaviour_fine names all stop fine = sign (codes "stop") refl
    behaviour_fine names all (exit_with values) fine =
        two (codes "exit") (round_list (map (exit_value_text naming names) values)) (sign (codes "exit") refl)
        (round_list_fine (map (exit_value_text naming names) values)
        (each_fine (exit_value_text naming names) (λ (value : ExitValue). exit_value_fine names all value) values))
    behaviour_fine names all (action gate offers test next) fine =
        let asked : List Variable = asked_variables offers in
        let are = fine_front asked (bound_names next) fine in
        let within = inside asked names are all in
        let text : List ℕ = behaviour_text naming (asked ++ names) next in
        two (gate_text naming gate ++ offers_text naming names offers ++ predicate_text naming (asked ++ names) test ++ codes "; ")
        (unit_text next text)
        (two (gate_text naming gate ++ offers_text naming names offers ++ predicate_text naming (asked ++ names) test) (codes "; ")
        (three (gate_text naming gate) (offers_text naming names offers) (predicate_text naming (asked ++ names) test) (gate_fine gate)
        (offers_fine names all offers are) (predicate_fine (asked ++ names) within test)) (sign (codes "; ") refl))
        (unit_fine next text (behaviour_fine (asked ++ names) within next (back (names_of_variables asked) (bound_names next) fine)))
    behaviour_fine names all (inner_action next) fine =
        two (codes "i; ") (unit_text next (behaviour_text naming names next)) (sign (codes "i; ") refl)
        (unit_fine next (behaviour_text naming names next) (behaviour_fine names all next fine))
    behaviour_fine names all (guard test next) fine =
        three (test_text naming names test) (codes " -> ") (unit_text next (behaviour_text naming names next)) (test_fine names all test)
        (sign (codes " -> ") refl) (unit_fine next (behaviour_text naming names next) (behaviour_fine names all next fine))
    behaviour_fine names all (choice left right) fine =
        binary_fine left right (behaviour_text naming names left) (codes "[]") (behaviour_text naming names right)
        (behaviour_fine names all left (front (bound_names left) (bound_names right) fine)) (sign (codes "[]") refl)
        (behaviour_fine names all right (back (bound_names left) (bound_names right) fine))
    behaviour_fine names all (parallel meet left right) fine =
        binary_fine left right (behaviour_text naming names left) (sign_text naming meet) (behaviour_text naming names right)
        (behaviour_fine names all left (front (bound_names left) (bound_names right) fine)) (sign_fine meet)
        (behaviour_fine names all right (back (bound_names left) (bound_names right) fine))
    behaviour_fine names all (hide listed next) fine =
        two (codes "hide " ++ gates_text naming listed ++ codes " in ") (behaviour_text naming names next)
        (three (codes "hide ") (gates_text naming listed) (codes " in ") (sign (codes "hide ") refl) (gates_fine listed)
        (sign (codes " in ") refl)) (behaviour_fine names all next fine)
    behaviour_fine names all (enable left variables right) fine =
        let rest = back (bound_names left) (names_of_variables variables ++ bound_names right) fine in
        let are = fine_front variables (bound_names right) rest in
        binary_fine left right (behaviour_text naming names left) (enable_sign naming variables)
        (behaviour_text naming (variables ++ names) right)
        (behaviour_fine names all left (front (bound_names left) (names_of_variables variables ++ bound_names right) fine))
        (enable_fine variables are)
        (behaviour_fine (variables ++ names) (inside variables names are all) right
        (back (names_of_variables variables) (bound_names right) rest))
    behaviour_fine names all (disable left right) fine =
        binary_fine left right (behaviour_text naming names left) (codes "[>") (behaviour_text naming names right)
        (behaviour_fine names all left (front (bound_names left) (bound_names right) fine)) (sign (codes "[>") refl)
        (behaviour_fine names all right (back (bound_names left) (bound_names right) fine))
    behaviour_fine names all (let_be bindings next) fine =
        let variables : List Variable = let_variables bindings in
        let are = fine_front variables (bound_names next) fine in
        two (codes "let " ++ commas (map (binding_text naming names) bindings) ++ codes " in ")
        (behaviour_text naming (variables ++ names) next)
        (three (codes "let ") (commas (map (binding_text naming names) bindings)) (codes " in ") (sign (codes "let ") refl)
        (commas_fine (map (binding_text naming names) bindings) (bindings_fine names all bindings are)) (sign (codes " in ") refl))
        (behaviour_fine (variables ++ names) (inside variables names are all) next
        (back (names_of_variables variables) (bound_names next) fine))
    behaviour_fine names all (choose_value x next) fine =
        two (codes "choice " ++ declared_text naming x ++ codes " [] ") (behaviour_text naming (x ∷ names) next)
        (three (codes "choice ") (declared_text naming x) (codes " [] ") (sign (codes "choice ") refl) (declared_fine x fine.0)
        (sign (codes " [] ") refl)) (behaviour_fine (x ∷ names) (fine.0, all) next fine.1)
    behaviour_fine names all (choose_gate gate listed next) fine =
        two (codes "choice " ++ gate_text naming gate ++ codes " in " ++ square (gates_text naming listed) ++ codes " [] ")
        (behaviour_text naming names next)
        (two (codes "choice " ++ gate_text naming gate ++ codes " in " ++ square (gates_text naming listed)) (codes " [] ")
        (two (codes "choice " ++ gate_text naming gate ++ codes " in ") (square (gates_text naming listed))
        (three (codes "choice ") (gate_text naming gate) (codes " in ") (sign (codes "choice ") refl) (gate_fine gate)
        (sign (codes " in ") refl)) (square_fine (gates_text naming listed) (gates_fine listed))) (sign (codes " [] ") refl))
        (behaviour_fine names all next fine)
    behaviour_fine names all (par_gate gate listed meet next) fine =
        two (codes "par " ++ gate_text naming gate ++ codes " in " ++ square (gates_text naming listed)
        ++ between_blanks (sign_text naming meet)) (behaviour_text naming names next)
        (two (codes "par " ++ gate_text naming gate ++ codes " in " ++ square (gates_text naming listed))
        (between_blanks (sign_text naming meet))
        (two (codes "par " ++ gate_text naming gate ++ codes " in ") (square (gates_text naming listed))
        (three (codes "par ") (gate_text naming gate) (codes " in ") (sign (codes "par ") refl) (gate_fine gate)
        (sign (codes " in ") refl)) (square_fine (gates_text naming listed) (gates_fine listed)))
        (between_fine (sign_text naming meet) (sign_fine meet))) (behaviour_fine names all next fine)
    behaviour_fine names all (call process listed values) fine = call_fine names all process listed values
    behaviour_fine names all (relabel pairs next) fine =
        two (codes "relabel " ++ commas (map (pair_text naming) pairs) ++ codes " in ") (behaviour_text naming names next)
        (three (codes "relabel ") (commas (map (pair_text naming) pairs)) (codes " in ") (sign (codes "relabel ") refl)
        (commas_fine (map (pair_text naming) pairs) (each_fine (pair_text naming) pair_fine pairs)) (sign (codes " in ") refl))
        (behaviour_fine names all next fine)

pub state_passes : (passes : ℕ → Bool) (signature : Signature) (specification : Specification) (b : Behaviour)
    → ((byte : ℕ) → is_printable byte ≡ true → passes byte ≡ true) → HaveNames (AllPass passes) signature specification b
    → AllPass passes (state_text signature specification b)
state_passes passes signature specification b fixed have =
    behaviour_fine passes fixed signature specification have.sorts have.operations have.gates have.processes [] tt b have.variables

-- ---- One line

abbrev is_no : ℕ → ℕ → Bool
is_no code byte = not (nat_eq code byte)

free : (code : ℕ) (text : List ℕ) → list_any (nat_eq code) text ≡ false → AllPass (is_no code) text
free code [] is = tt
free code (byte ∷ text) is =
    let parts = or_parts (nat_eq code byte) (list_any (nat_eq code) text) is in (ap not parts.0, free code text parts.1)

freed : (code : ℕ) (text : List ℕ) → AllPass (is_no code) text → list_any (nat_eq code) text ≡ false
freed code [] all = refl
freed code (byte ∷ text) all = by (nat_eq code byte) all.0 (freed code text all.1)
  where
    by : (b : Bool) → not b ≡ true → list_any (nat_eq code) text ≡ false → (b || list_any (nat_eq code) text) ≡ false
    by true is rest = absurd (cc is)
    by false is rest = rest

-- no code below 32 is printable
printable_no : (code : ℕ) → code < 32 → (byte : ℕ) → is_printable byte ≡ true → is_no code byte ≡ true
printable_no code small byte is = by (nat_eq code byte) refl
  where
    above : 31 < byte
    above = ltb-true 31 byte (and_parts (nat_lt 31 byte) (nat_lt byte 127) is).0

    by : (b : Bool) → nat_eq code byte ≡ b → not b ≡ true
    by true same = let equal = eqb-true code byte same in absurd (omega (arith, equal, small, above))
    by false other = refl

free_of : (code : ℕ) → code < 32 → (IsName : List ℕ → Type 0)
    → ((name : List ℕ) → IsName name → list_any (nat_eq code) name ≡ false)
    → (signature : Signature) (specification : Specification) (b : Behaviour) → HaveNames IsName signature specification b
    → list_any (nat_eq code) (state_text signature specification b) ≡ false
free_of code small IsName so signature specification b have =
    freed code (state_text signature specification b)
    (state_passes (is_no code) signature specification b (printable_no code small) (record {
      sorts =
          Every-weaker (λ (s : Sort). IsName s.name) (λ (s : Sort). AllPass (is_no code) s.name) (λ s is. so_free s.name is)
          signature.sorts have.sorts;
      operations =
          Every-weaker (λ (o : Operation). IsName o.name) (λ (o : Operation). AllPass (is_no code) o.name) (λ o is. so_free o.name is)
          signature.operations have.operations;
      gates = Every-weaker IsName (AllPass (is_no code)) so_free specification.gate_names have.gates;
      processes =
          Every-weaker (λ (p : Process). IsName p.name) (λ (p : Process). AllPass (is_no code) p.name) (λ p is. so_free p.name is)
          specification.processes have.processes;
      variables = Every-weaker IsName (AllPass (is_no code)) so_free (bound_names b) have.variables;
    }))
  where
    so_free : (name : List ℕ) → IsName name → AllPass (is_no code) name
    so_free name is = free code name (so name is)

pub state_texts_are_of_names : StateTextsAreOfNames
state_texts_are_of_names = record {
  passed = state_passes;
  on_one_line = λ signature specification b have. record {
    no_line_feed =
        free_of 10 (omega arith) IsOnOneLine (λ name is. is.no_line_feed) signature specification b have;
    no_return = free_of 13 (omega arith) IsOnOneLine (λ name is. is.no_return) signature specification b have;
  };
}
