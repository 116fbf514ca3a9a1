-- The texts of behaviours are cut into the words of these behaviours.
use Rattle.std.proofs.Common.{◌≡◌, ℕ, false, List, [], ◌∷◌, ◌++◌, map, refl, ap, sym, ◌∙◌, subst, arith, append_assoc, codes}
use Rattle.std.specs.Prelude.{Option}
use Rattle.lotos_base.specs.Signature.{IsWellFormedSignature}
use Rattle.lotos_base.specs.Equation.{Variable}
use Rattle.lotos_base.specs.Term.{Term}
use Rattle.lotos_lexer.specs.declared.kinds.TheConstants.{HIDE, IN, LET, CHOICE, PAR, I, SEMICOLON, ARROW, CHOICE_SIGN, DISABLING, EXIT}
use Rattle.behaviour_semantics.specs.Behaviour.{Behaviour, stop, exit_with, action, inner_action, guard, choice, parallel, hide, enable, disable, let_be, choose_value, choose_gate, par_gate, call, relabel, Test, Offer, Process, asked_variables, sorts_of, let_variables}
use Rattle.behaviour_semantics.specs.WellFormed.{Every}
use Rattle.behaviour_semantics.proofs.EveryLemmas.{every_front, every_back}
use Rattle.printed_texts.specs.Brackets.{square, commas}
use Rattle.printed_texts.specs.TermText.{term_text}
use Rattle.printed_texts.specs.BehaviourText.{Naming, gate_text, gates_text, called_text, declared_text, test_text, predicate_text, offers_text, exit_value_text, round_list, square_list, sign_text, enable_sign, binding_text, stands_in_brackets, unit_text, between_blanks, behaviour_text}
use Rattle.session_laws.specs.TextNames.{HasTextNames}
use Rattle.declaration_laws.specs.DeclarationOrder.{gates_bound, variables_bound}
use Rattle.session_laws.proofs.PartsOfText.{apart}
use Rattle.session_laws.specs.Meanings.{PrintedScope, behind_variables, behind_gates, behind_left, CallMeans, BehaviourMeans}
use Rattle.session_laws.specs.PrintedWords.{Word, a_word, name_word, term_words, gate_word, gates_words, declared_words, test_words, predicate_words, offers_words, exit_value_words, square_words, commas_words, round_list_words, square_list_words, meet_words, enable_words, binding_words, gate_choice_words, unit_words, behaviour_words}
use Rattle.session_laws.specs.WordLaws.{HasTextForm}
use Rattle.session_laws.specs.CutTexts.{AreWhole}
use Rattle.session_laws.specs.BehaviourTextLaws.{HasWordAsName, IsVariableNamed, HasScopeNames, AreCalledByWords, HasDeclaredNames, BehaviourTextsAreWords}
use Rattle.session_laws.proofs.Extending.{word_cut, Extends, extends_joined}
use Rattle.session_laws.proofs.ExtendingParts.{ends_before, ends_behind, space_ends, word_ends}
use Rattle.session_laws.proofs.TermTexts.{bracketed_extends, whole_cut}
use Rattle.session_laws.proofs.Joining.{four_assoc, five_assoc, name_in, stop_extends, exit_extends, blank_apart}
use Rattle.session_laws.proofs.NamedScopes.{scope_behind_variables, scope_behind_left, scope_behind_gates, gate_named_well, gates_named_well}
use Rattle.session_laws.proofs.PartTexts.{round_list_stays, square_list_stays, gates_in, square_gates_extend, gate_list_extends, declared_extends, test_extends, predicate_extends, predicate_stays, offers_extend, offers_stay, exit_values_extend, values_extend, bindings_extend, meet_whole, enable_whole, in_whole}

-- ---- Words before blanks, and signs between them

semicolon_whole : AreWhole (codes "; ") (a_word SEMICOLON (codes ";") ∷ [])
semicolon_whole = word_ends SEMICOLON (codes ";") 32 (omega arith) refl (λ (rest : List ℕ). refl) refl

inner_whole : AreWhole (codes "i; ") (a_word I (codes "i") ∷ a_word SEMICOLON (codes ";") ∷ [])
inner_whole rest more cut =
    word_cut false (a_word I (codes "i")) (59 ∷ 32 ∷ rest) (a_word SEMICOLON (codes ";") ∷ more) (omega arith) refl
    (semicolon_whole rest more cut)

arrow_whole : AreWhole (codes " -> ") (a_word ARROW (codes "->") ∷ [])
arrow_whole =
    space_ends (codes "-> ") (a_word ARROW (codes "->") ∷ [])
    (word_ends ARROW (codes "->") 32 (omega arith) refl (λ (rest : List ℕ). refl) refl)

choice_whole : AreWhole (codes " [] ") (a_word CHOICE_SIGN (codes "[]") ∷ [])
choice_whole =
    space_ends (codes "[] ") (a_word CHOICE_SIGN (codes "[]") ∷ [])
    (word_ends CHOICE_SIGN (codes "[]") 32 (omega arith) refl (λ (rest : List ℕ). refl) refl)

disabling_whole : AreWhole (codes " [> ") (a_word DISABLING (codes "[>") ∷ [])
disabling_whole =
    space_ends (codes "[> ") (a_word DISABLING (codes "[>") ∷ [])
    (word_ends DISABLING (codes "[>") 32 (omega arith) refl (λ (rest : List ℕ). refl) refl)

hide_whole : AreWhole (codes "hide ") (a_word HIDE (codes "hide") ∷ [])
hide_whole = word_ends HIDE (codes "hide") 32 (omega arith) refl (λ (rest : List ℕ). refl) refl

let_whole : AreWhole (codes "let ") (a_word LET (codes "let") ∷ [])
let_whole = word_ends LET (codes "let") 32 (omega arith) refl (λ (rest : List ℕ). refl) refl

choice_word_whole : AreWhole (codes "choice ") (a_word CHOICE (codes "choice") ∷ [])
choice_word_whole = word_ends CHOICE (codes "choice") 32 (omega arith) refl (λ (rest : List ℕ). refl) refl

par_whole : AreWhole (codes "par ") (a_word PAR (codes "par") ∷ [])
par_whole = word_ends PAR (codes "par") 32 (omega arith) refl (λ (rest : List ℕ). refl) refl

-- ---- Parts

unit_extends : (b : Behaviour) (text : List ℕ) (words : List Word) → Extends text words → Extends (unit_text b text) (unit_words b words)
unit_extends b text words inside = bracketed_extends (stands_in_brackets b) text words inside

-- a sign between two units
between_units : (left sign right : List ℕ) (us vs ws : List Word) → Extends left us → AreWhole (32 ∷ sign) vs → Extends right ws
    → Extends ((left ++ (32 ∷ sign)) ++ right) (us ++ (vs ++ ws))
between_units left sign right us vs ws first middle last =
    subst (λ (words : List Word). Extends ((left ++ (32 ∷ sign)) ++ right) words) (append_assoc us vs ws)
    (ends_before (left ++ (32 ∷ sign)) right (us ++ vs) ws
    (ends_behind left (32 ∷ sign) us vs first (blank_apart sign) middle) last)

-- a word, something behind it, a word behind that, and a behaviour
word_form : (word inside sign text : List ℕ) (vs us ws qs : List Word) → AreWhole word vs → Extends inside us → AreWhole (32 ∷ sign) ws
    → Extends text qs → Extends (((word ++ inside) ++ (32 ∷ sign)) ++ text) (vs ++ (us ++ (ws ++ qs)))
word_form word inside sign text vs us ws qs first middle third last =
    subst (λ (words : List Word). Extends (((word ++ inside) ++ (32 ∷ sign)) ++ text) words) (four_assoc vs us ws qs)
    (ends_before ((word ++ inside) ++ (32 ∷ sign)) text ((vs ++ us) ++ ws) qs
    (ends_behind (word ++ inside) (32 ∷ sign) (vs ++ us) ws (ends_before word inside vs us first middle) (blank_apart sign) third) last)

module _ (naming : Naming) (processes : List Process) (well : IsWellFormedSignature naming.signature)
    (spelled : HasTextNames naming.signature) (called : AreCalledByWords naming processes) where
  -- a gate among gates in brackets
  gate_choice_extends : (gate : ℕ) (among : List ℕ) → ¬ (◌≡◌ {A = List ℕ} among []) → HasWordAsName naming gate
      → Every (HasWordAsName naming) among
      → Extends ((gate_text naming gate ++ codes " in ") ++ square (gates_text naming among)) (gate_choice_words naming gate among)
  gate_choice_extends gate [] some named each = absurd (some refl)
  gate_choice_extends gate (g ∷ among) some named each =
      ends_before (gate_text naming gate ++ codes " in ") (square (gates_text naming (g ∷ among)))
      (gate_word naming gate ∷ a_word IN (codes "in") ∷ []) (square_words (gates_words naming (g ∷ among)))
      (ends_behind (gate_text naming gate) (codes " in ") (gate_word naming gate ∷ []) (a_word IN (codes "in") ∷ [])
      (name_in false (gate_text naming gate) named) (blank_apart (codes "in "))
      (in_whole naming well spelled))
      (square_gates_extend naming well spelled g among each)

  call_extends : (scope : PrintedScope) (number : ℕ) (gates : List ℕ) (values : List Term) → HasScopeNames naming scope
      → CallMeans naming processes scope number gates values
      → Extends (behaviour_text naming scope.names (call number gates values))
      (behaviour_words naming scope.names (call number gates values))
  call_extends scope number gates values has means =
      let gate_bytes : List ℕ = square_list (map (gate_text naming) gates) in
      let value_bytes : List ℕ = round_list (map (term_text naming.signature scope.names) values) in
      let gate_words : List Word = square_list_words (map (λ (gate : ℕ). gate_word naming gate ∷ []) gates) in
      let value_words : List Word = round_list_words (map (term_words naming.signature scope.names) values) in
      extends_joined (called_text naming number ++ gate_bytes) value_bytes (name_word (called_text naming number) ∷ gate_words) value_words
      (extends_joined (called_text naming number) gate_bytes (name_word (called_text naming number) ∷ []) gate_words
      (name_in false (called_text naming number) (called number means.process means.there))
      (square_list_stays (map (gate_text naming) gates))
      (gate_list_extends naming well spelled gates (gates_named_well naming scope gates has means.gates_mean)))
      (round_list_stays (map (term_text naming.signature scope.names) values))
      (values_extend naming well spelled scope values (sorts_of means.process.parameters) has means.values_mean)

  action_extends : (scope : PrintedScope) (gate : ℕ) (offers : List Offer) (test : Option Test) (text : List ℕ) (words : List Word)
      → Extends (gate_text naming gate) (gate_word naming gate ∷ [])
      → Extends (offers_text naming scope.names offers) (offers_words naming scope.names offers)
      → Extends (predicate_text naming (asked_variables offers ++ scope.names) test)
      (predicate_words naming (asked_variables offers ++ scope.names) test)
      → Extends text words
      → Extends ((((gate_text naming gate ++ offers_text naming scope.names offers)
      ++ predicate_text naming (asked_variables offers ++ scope.names) test) ++ codes "; ") ++ text)
      (gate_word naming gate ∷ (offers_words naming scope.names offers
      ++ (predicate_words naming (asked_variables offers ++ scope.names) test ++ a_word SEMICOLON (codes ";") ∷ words)))
  action_extends scope gate offers test text words first second third last =
      let g : List ℕ = gate_text naming gate in
      let o : List ℕ = offers_text naming scope.names offers in
      let p : List ℕ = predicate_text naming (asked_variables offers ++ scope.names) test in
      let us : List Word = gate_word naming gate ∷ [] in
      let vs : List Word = offers_words naming scope.names offers in
      let ws : List Word = predicate_words naming (asked_variables offers ++ scope.names) test in
      let sign : List Word = a_word SEMICOLON (codes ";") ∷ [] in
      subst (λ (all : List Word). Extends ((((g ++ o) ++ p) ++ codes "; ") ++ text) all) (five_assoc us vs ws sign words)
      (ends_before (((g ++ o) ++ p) ++ codes "; ") text (((us ++ vs) ++ ws) ++ sign) words
      (ends_behind ((g ++ o) ++ p) (codes "; ") ((us ++ vs) ++ ws) sign
      (extends_joined (g ++ o) p (us ++ vs) ws
      (extends_joined g o us vs first (offers_stay naming well spelled scope.names offers) second)
      (predicate_stays naming well spelled (asked_variables offers ++ scope.names) test) third)
      (λ (rest : List ℕ). apart 59 (32 ∷ rest) refl refl) semicolon_whole) last)

  -- ---- Behaviours

  -- what a behaviour declares in front, and what its part declares
  declared_front : (b : Behaviour) (xs : List Variable) → Every IsVariableNamed (xs ++ variables_bound b) → Every IsVariableNamed xs
  declared_front b xs each = every_front IsVariableNamed xs (variables_bound b) each

  behind_declared : (b : Behaviour) (xs : List Variable) → Every (HasWordAsName naming) (gates_bound b)
      → Every IsVariableNamed (xs ++ variables_bound b) → HasDeclaredNames naming b
  behind_declared b xs gates variables =
      record { gates = gates; variables = every_back IsVariableNamed xs (variables_bound b) variables }

  left_declared : (b c : Behaviour) → Every (HasWordAsName naming) (gates_bound b ++ gates_bound c)
      → Every IsVariableNamed (variables_bound b ++ variables_bound c) → HasDeclaredNames naming b
  left_declared b c gates variables = record {
    gates = every_front (HasWordAsName naming) (gates_bound b) (gates_bound c) gates;
    variables = every_front IsVariableNamed (variables_bound b) (variables_bound c) variables;
  }

  right_declared : (b c : Behaviour) → Every (HasWordAsName naming) (gates_bound b ++ gates_bound c)
      → Every IsVariableNamed (variables_bound b ++ variables_bound c) → HasDeclaredNames naming c
  right_declared b c gates variables = record {
    gates = every_back (HasWordAsName naming) (gates_bound b) (gates_bound c) gates;
    variables = every_back IsVariableNamed (variables_bound b) (variables_bound c) variables;
  }

  abbrev HasWords : Behaviour → Type 0
  HasWords b = (scope : PrintedScope) → HasScopeNames naming scope → HasTextForm b → HasDeclaredNames naming b
      → BehaviourMeans naming processes scope b → Extends (behaviour_text naming scope.names b) (behaviour_words naming scope.names b)

  unit_of : (b : Behaviour) (scope : PrintedScope)
      → Extends (behaviour_text naming scope.names b) (behaviour_words naming scope.names b)
      → Extends (unit_text b (behaviour_text naming scope.names b)) (unit_words b (behaviour_words naming scope.names b))
  unit_of b scope inside = unit_extends b (behaviour_text naming scope.names b) (behaviour_words naming scope.names b) inside

  pub behaviour_extends : (b : Behaviour) → HasWords b
  behaviour_extends stop scope has form named means = stop_extends
  behaviour_extends (exit_with results) scope has form named means =
      extends_joined (codes "exit") (round_list (map (exit_value_text naming scope.names) results)) (a_word EXIT (codes "exit") ∷ [])
      (round_list_words (map (exit_value_words naming scope.names) results)) exit_extends
      (round_list_stays (map (exit_value_text naming scope.names) results))
      (exit_values_extend naming well spelled scope results has means)
  behaviour_extends (action gate offers test b) scope has form named means =
      let inside : PrintedScope = behind_variables (asked_variables offers) scope in
      let asked = declared_front b (asked_variables offers) named.variables in
      let names = scope_behind_variables naming (asked_variables offers) scope asked has in
      action_extends scope gate offers test (unit_text b (behaviour_text naming inside.names b))
      (unit_words b (behaviour_words naming inside.names b))
      (name_in false (gate_text naming gate) (gate_named_well naming scope gate has means.0))
      (offers_extend naming well spelled scope offers has asked means.2.sorted means.1)
      (predicate_extends naming well spelled inside test names means.3)
      (unit_of b inside (behaviour_extends b inside names form.1
      (behind_declared b (asked_variables offers) named.gates named.variables) means.4))
  behaviour_extends (inner_action b) scope has form named means =
      ends_before (codes "i; ") (unit_text b (behaviour_text naming scope.names b))
      (a_word I (codes "i") ∷ a_word SEMICOLON (codes ";") ∷ []) (unit_words b (behaviour_words naming scope.names b)) inner_whole
      (unit_of b scope (behaviour_extends b scope has form (record { gates = named.gates; variables = named.variables }) means))
  behaviour_extends (guard test b) scope has form named means =
      between_units (test_text naming scope.names test) (codes "-> ") (unit_text b (behaviour_text naming scope.names b))
      (test_words naming scope.names test) (a_word ARROW (codes "->") ∷ []) (unit_words b (behaviour_words naming scope.names b))
      (test_extends naming well spelled scope test has means.0) arrow_whole
      (unit_of b scope (behaviour_extends b scope has form (record { gates = named.gates; variables = named.variables }) means.1))
  behaviour_extends (choice b c) scope has form named means =
      between_units (unit_text b (behaviour_text naming scope.names b)) (codes "[] ") (unit_text c (behaviour_text naming scope.names c))
      (unit_words b (behaviour_words naming scope.names b)) (a_word CHOICE_SIGN (codes "[]") ∷ [])
      (unit_words c (behaviour_words naming scope.names c))
      (unit_of b scope (behaviour_extends b scope has form.0 (left_declared b c named.gates named.variables) means.0)) choice_whole
      (unit_of c (behind_left b scope) (behaviour_extends c (behind_left b scope) (scope_behind_left naming b scope has) form.1
      (right_declared b c named.gates named.variables) means.1))
  behaviour_extends (parallel meet b c) scope has form named means =
      between_units (unit_text b (behaviour_text naming scope.names b)) (sign_text naming meet ++ codes " ")
      (unit_text c (behaviour_text naming scope.names c)) (unit_words b (behaviour_words naming scope.names b)) (meet_words naming meet)
      (unit_words c (behaviour_words naming scope.names c))
      (unit_of b scope (behaviour_extends b scope has form.0 (left_declared b c named.gates named.variables) means.1))
      (meet_whole naming well spelled scope meet has means.0)
      (unit_of c (behind_left b scope) (behaviour_extends c (behind_left b scope) (scope_behind_left naming b scope has) form.1
      (right_declared b c named.gates named.variables) means.2))
  behaviour_extends (hide gates b) scope has form named means =
      let hidden = every_front (HasWordAsName naming) gates (gates_bound b) named.gates in
      let inside : PrintedScope = behind_gates naming gates scope in
      word_form (codes "hide ") (gates_text naming gates) (codes "in ") (behaviour_text naming scope.names b)
      (a_word HIDE (codes "hide") ∷ []) (gates_words naming gates) (a_word IN (codes "in") ∷ []) (behaviour_words naming scope.names b)
      hide_whole (gates_in naming well spelled false gates hidden) (in_whole naming well spelled)
      (behaviour_extends b inside (scope_behind_gates naming gates scope means.0 hidden has) form.1
      (record { gates = every_back (HasWordAsName naming) gates (gates_bound b) named.gates; variables = named.variables }) means.1)
  behaviour_extends (enable b variables c) scope has form named means =
      let later = every_back IsVariableNamed (variables_bound b) (variables ++ variables_bound c) named.variables in
      let accepted = declared_front c variables later in
      let before : PrintedScope = behind_left b scope in
      let inside : PrintedScope = behind_variables variables before in
      between_units (unit_text b (behaviour_text naming scope.names b)) (enable_sign naming variables ++ codes " ")
      (unit_text c (behaviour_text naming inside.names c)) (unit_words b (behaviour_words naming scope.names b))
      (enable_words naming variables) (unit_words c (behaviour_words naming inside.names c))
      (unit_of b scope (behaviour_extends b scope has form.0 (record {
        gates = every_front (HasWordAsName naming) (gates_bound b) (gates_bound c) named.gates;
        variables = every_front IsVariableNamed (variables_bound b) (variables ++ variables_bound c) named.variables;
      }) means.0))
      (enable_whole naming well spelled variables accepted means.1.sorted)
      (unit_of c inside (behaviour_extends c inside
      (scope_behind_variables naming variables before accepted (scope_behind_left naming b scope has)) form.1
      (behind_declared c variables (every_back (HasWordAsName naming) (gates_bound b) (gates_bound c) named.gates) later) means.2))
  behaviour_extends (disable b c) scope has form named means =
      between_units (unit_text b (behaviour_text naming scope.names b)) (codes "[> ") (unit_text c (behaviour_text naming scope.names c))
      (unit_words b (behaviour_words naming scope.names b)) (a_word DISABLING (codes "[>") ∷ [])
      (unit_words c (behaviour_words naming scope.names c))
      (unit_of b scope (behaviour_extends b scope has form.0 (left_declared b c named.gates named.variables) means.0)) disabling_whole
      (unit_of c (behind_left b scope) (behaviour_extends c (behind_left b scope) (scope_behind_left naming b scope has) form.1
      (right_declared b c named.gates named.variables) means.1))
  behaviour_extends (let_be bindings b) scope has form named means =
      let bound = declared_front b (let_variables bindings) named.variables in
      let inside : PrintedScope = behind_variables (let_variables bindings) scope in
      word_form (codes "let ") (commas (map (binding_text naming scope.names) bindings)) (codes "in ")
      (behaviour_text naming inside.names b) (a_word LET (codes "let") ∷ [])
      (commas_words (map (binding_words naming scope.names) bindings)) (a_word IN (codes "in") ∷ [])
      (behaviour_words naming inside.names b) let_whole
      (bindings_extend naming well spelled scope bindings has bound means.1.sorted means.0) (in_whole naming well spelled)
      (behaviour_extends b inside (scope_behind_variables naming (let_variables bindings) scope bound has) form.1
      (behind_declared b (let_variables bindings) named.gates named.variables) means.2)
  behaviour_extends (choose_value x b) scope has form named means =
      let inside : PrintedScope = behind_variables (x ∷ []) scope in
      word_form (codes "choice ") (declared_text naming x) (codes "[] ") (behaviour_text naming inside.names b)
      (a_word CHOICE (codes "choice") ∷ []) (declared_words naming x) (a_word CHOICE_SIGN (codes "[]") ∷ [])
      (behaviour_words naming inside.names b) choice_word_whole
      (declared_extends naming well spelled x named.variables.0 means.0.sorted.0) choice_whole
      (behaviour_extends b inside (scope_behind_variables naming (x ∷ []) scope (named.variables.0, tt) has) form
      (record { gates = named.gates; variables = named.variables.1 }) means.1)
  behaviour_extends (choose_gate gate among b) scope has form named means =
      let inside : PrintedScope = behind_gates naming (gate ∷ []) scope in
      let gates : List ℕ = gate_text naming gate in
      let square_ : List ℕ = square (gates_text naming among) in
      subst (λ (bytes : List ℕ). Extends ((bytes ++ codes " [] ") ++ behaviour_text naming scope.names b)
      (behaviour_words naming scope.names (choose_gate gate among b)))
      (sym (append_assoc (codes "choice " ++ gates) (codes " in ") square_
      ∙ append_assoc (codes "choice ") gates (codes " in " ++ square_)
      ∙ ap (λ (bytes : List ℕ). codes "choice " ++ bytes) (sym (append_assoc gates (codes " in ") square_))))
      (word_form (codes "choice ") ((gates ++ codes " in ") ++ square_) (codes "[] ") (behaviour_text naming scope.names b)
      (a_word CHOICE (codes "choice") ∷ []) (gate_choice_words naming gate among) (a_word CHOICE_SIGN (codes "[]") ∷ [])
      (behaviour_words naming scope.names b) choice_word_whole
      (gate_choice_extends gate among form.0 named.gates.0 (gates_named_well naming scope among has means.0)) choice_whole
      (behaviour_extends b inside (scope_behind_gates naming (gate ∷ []) scope means.1 (named.gates.0, tt) has) form.1
      (record { gates = named.gates.1; variables = named.variables }) means.2))
  behaviour_extends (par_gate gate among meet b) scope has form named means =
      let inside : PrintedScope = behind_gates naming (gate ∷ []) scope in
      let gates : List ℕ = gate_text naming gate in
      let square_ : List ℕ = square (gates_text naming among) in
      subst (λ (bytes : List ℕ). Extends ((bytes ++ between_blanks (sign_text naming meet)) ++ behaviour_text naming scope.names b)
      (behaviour_words naming scope.names (par_gate gate among meet b)))
      (sym (append_assoc (codes "par " ++ gates) (codes " in ") square_
      ∙ append_assoc (codes "par ") gates (codes " in " ++ square_)
      ∙ ap (λ (bytes : List ℕ). codes "par " ++ bytes) (sym (append_assoc gates (codes " in ") square_))))
      (word_form (codes "par ") ((gates ++ codes " in ") ++ square_) (sign_text naming meet ++ codes " ")
      (behaviour_text naming scope.names b) (a_word PAR (codes "par") ∷ []) (gate_choice_words naming gate among) (meet_words naming meet)
      (behaviour_words naming scope.names b) par_whole
      (gate_choice_extends gate among form.0 named.gates.0 (gates_named_well naming scope among has means.0))
      (meet_whole naming well spelled scope meet has means.1)
      (behaviour_extends b inside (scope_behind_gates naming (gate ∷ []) scope means.2 (named.gates.0, tt) has) form.1
      (record { gates = named.gates.1; variables = named.variables }) means.3))
  behaviour_extends (call number gates values) scope has form named means = call_extends scope number gates values has means
  behaviour_extends (relabel pairs b) scope has form named means = absurd form

pub behaviour_texts_are_words : BehaviourTextsAreWords
behaviour_texts_are_words number naming processes scope b well spelled called has form named means =
    whole_cut number (behaviour_text naming scope.names b) (behaviour_words naming scope.names b)
    (behaviour_extends naming processes well spelled called b scope has form named means)
