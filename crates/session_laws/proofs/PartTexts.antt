-- The texts of the parts of behaviours are cut into the words of these parts.
use Rattle.std.proofs.Common.{◌≡◌, ℕ, Bool, true, false, List, [], ◌∷◌, ◌++◌, map, refl, sym, subst, arith, append_assoc, codes, inl, inr}
use Rattle.std.specs.Prelude.{Option, None, Some, if◌then◌else◌}
use Rattle.std.specs.Char.{is_ascii_digit}
use Rattle.lotos_lexer.specs.Bytes.{is_sign}
use Rattle.lotos_base.specs.Signature.{Signature, Operation, Form, prefix_form, infix_form, IsWellFormedSignature}
use Rattle.lotos_base.specs.Twins.{has_twin}
use Rattle.lotos_base.specs.Equation.{Variable}
use Rattle.lotos_base.specs.Term.{Term, Terms, variable, node, no_terms, term_then, argument_list_of}
use Rattle.lotos_lexer.specs.declared.kinds.TheConstants.{ANY, ACCEPT, IN, COLON, EQUALS, EXCLAMATION, QUESTION, INTERLEAVING, FULL_SYNCHRONISATION, GATES_OPEN, GATES_CLOSE, ENABLING}
use Rattle.behaviour_semantics.specs.Behaviour.{Test, Offer, give, ask, ExitValue, exit_value, any_of, SynchronisationSet, no_gates, all_gates, at_gates, asked_variables}
use Rattle.behaviour_semantics.specs.WellFormed.{Every}
use Rattle.printed_texts.specs.Brackets.{begins_with_sign, spaced, square, bracketed, commas, after_commas}
use Rattle.printed_texts.specs.TermText.{Phrase, sort_text, variable_text, operand_text, of_text, arguments_text, prefix_phrase, operator_text, between_text, infix_phrase, application_phrase, phrase_of, phrases_of, node_phrase, term_text}
use Rattle.printed_texts.specs.BehaviourText.{Naming, gate_text, gates_text, declared_text, declarations_text, is_constant, equation_text, premiss_text, test_text, predicate_text, offer_text, offers_text, exit_value_text, round_list, square_list, sign_text, enable_sign, binding_text, between_blanks}
use Rattle.session_laws.specs.TextNames.{IsWordSpelling, IsOperationSpelling, HasTextNames}
use Rattle.session_laws.specs.TermMeanings.{TermMeans, TermsMean}
use Rattle.session_laws.proofs.PartsOfText.{apart}
use Rattle.session_laws.specs.Meanings.{SortMeans, PrintedScope, ValueMeans, ExitValueMeans, OfferMeans, TestMeans, PredicateMeans, MeetMeans}
use Rattle.session_laws.proofs.PartsMeant.{every_map}
use Rattle.session_laws.specs.PrintedWords.{Word, a_word, name_word, term_words, gate_word, gates_words, declared_words, declarations_words, sides_words, test_words, predicate_words, offer_words, offers_words, exit_value_words, commas_words, round_list_words, square_list_words, meet_words, enable_words, binding_words}
use Rattle.session_laws.specs.CutTexts.{AreCut, AreWhole}
use Rattle.session_laws.specs.BehaviourTextLaws.{HasWordAsName, IsVariableNamed, HasScopeNames}
use Rattle.session_laws.proofs.Extending.{word_cut, blank_cut, ExtendsIn, Extends, StaysApart, extends_joined, nothing_extends, nothing_stays, round_extends, round_stays}
use Rattle.session_laws.proofs.ExtendingParts.{ends_joined, ends_before, ends_behind, space_ends, word_ends, commas_in}
use Rattle.session_laws.proofs.TermTexts.{blank_extends, blank_stays, term_matches}
use Rattle.session_laws.proofs.Joining.{five_assoc, name_in, OpensList, opens_by, opens_joined, word_opens, square_extends, square_stays, colon_extends, colon_stays, equals_whole, blank_apart}
use Rattle.session_laws.proofs.NamedScopes.{sort_named_well, gates_named_well, term_named}

-- ---- Lists in brackets

pub round_list_extends : {A : Type 0} (text : A → List ℕ) (words : A → List Word) (xs : List A)
    → Every (λ (x : A). Extends (text x) (words x)) xs → Extends (round_list (map text xs)) (round_list_words (map words xs))
round_list_extends text words [] each = nothing_extends
round_list_extends text words (x ∷ xs) each =
    round_extends (commas (map text (x ∷ xs))) (commas_words (map words (x ∷ xs))) (commas_in false text words (x ∷ xs) each)

pub round_list_stays : (texts : List (List ℕ)) → StaysApart (round_list texts)
round_list_stays [] = nothing_stays
round_list_stays (text ∷ texts) = round_stays (commas (text ∷ texts))

pub square_list_stays : (texts : List (List ℕ)) → StaysApart (square_list texts)
square_list_stays [] = nothing_stays
square_list_stays (text ∷ texts) = square_stays (commas (text ∷ texts))

-- the first text of a list opens it
first_opens : (text : List ℕ) (texts : List (List ℕ)) → OpensList text → OpensList (commas (text ∷ texts))
first_opens text texts is = opens_joined text (after_commas texts) is

-- ---- Terms begin with a name or a bracket

operation_opens : (name : List ℕ) → IsOperationSpelling name → OpensList name
operation_opens name (inl is) = word_opens name is
operation_opens name (inr (inl is)) = opens_by is_ascii_digit name refl is.begins
operation_opens name (inr (inr is)) = opens_by is_sign name refl is.begins

bracketed_opens : (flag : Bool) (bytes : List ℕ) → OpensList bytes → OpensList (bracketed flag bytes)
bracketed_opens true bytes is = refl
bracketed_opens false bytes is = is

abbrev AllOpen : List Phrase → Type 0
AllOpen phrases = Every (λ (p : Phrase). OpensList p.text) phrases

prefix_opens : (signature : Signature) (operation : Operation) (phrases : List Phrase) → IsOperationSpelling operation.name
    → OpensList (prefix_phrase signature operation phrases).text
prefix_opens signature operation phrases is =
    opens_joined (operation.name ++ arguments_text phrases) (of_text signature operation)
    (opens_joined operation.name (arguments_text phrases) (operation_opens operation.name is))

infix_opens : (signature : Signature) (operation : Operation) (left right : Phrase) → OpensList left.text
    → OpensList (infix_phrase signature operation left right).text
infix_opens signature operation left right is =
    opens_joined (bracketed (has_twin signature operation) (between_text operation left right)) (of_text signature operation)
    (bracketed_opens (has_twin signature operation) (between_text operation left right)
    (opens_joined (operand_text left ++ operator_text operation.name) (operand_text right)
    (opens_joined (operand_text left) (operator_text operation.name) (bracketed_opens left.is_infix left.text is))))

application_opens : (signature : Signature) (operation : Operation) (form : Form) (phrases : List Phrase)
    → IsOperationSpelling operation.name → AllOpen phrases → OpensList (application_phrase signature operation form phrases).text
application_opens signature operation prefix_form phrases is all = prefix_opens signature operation phrases is
application_opens signature operation infix_form [] is all = prefix_opens signature operation [] is
application_opens signature operation infix_form (p ∷ []) is all = prefix_opens signature operation (p ∷ []) is
application_opens signature operation infix_form (p ∷ (q ∷ [])) is all = infix_opens signature operation p q all.0
application_opens signature operation infix_form (p ∷ (q ∷ (r ∷ phrases))) is all =
    prefix_opens signature operation (p ∷ (q ∷ (r ∷ phrases))) is

module _ (naming : Naming) (well : IsWellFormedSignature naming.signature) (spelled : HasTextNames naming.signature) where
  mutual
    phrase_opens : (visible names : List Variable) (t : Term) (sort : ℕ)
        → Every (λ (v : Variable). IsWordSpelling (variable_text names v.number)) visible
        → TermMeans naming.signature visible names t sort → OpensList (phrase_of naming.signature names t).text
    phrase_opens visible names (variable n s) sort has means =
        word_opens (variable_text names n) (term_named naming.signature visible names (variable n s) sort has means)
    phrase_opens visible names (node f ts) sort has means =
        subst (λ (found : Option Operation). OpensList (node_phrase naming.signature found (phrases_of naming.signature names ts)).text)
        (sym means.1)
        (application_opens naming.signature means.0 means.0.form (phrases_of naming.signature names ts)
        (spelled.operations f means.0 means.1) (phrases_open visible names ts means.0.arguments has means.4))

    phrases_open : (visible names : List Variable) (ts : Terms) (sorts : List ℕ)
        → Every (λ (v : Variable). IsWordSpelling (variable_text names v.number)) visible
        → TermsMean naming.signature visible names ts sorts → AllOpen (phrases_of naming.signature names ts)
    phrases_open visible names no_terms sorts has means = tt
    phrases_open visible names (term_then t ts) [] has means = absurd means
    phrases_open visible names (term_then t ts) (s ∷ ss) has means =
        (phrase_opens visible names t s has means.0, phrases_open visible names ts ss has means.1)

  -- ---- Terms, gates and declared variables

  pub term_extends : (scope : PrintedScope) (t : Term) (sort : ℕ) → HasScopeNames naming scope → ValueMeans naming scope t sort
      → Extends (term_text naming.signature scope.names t) (term_words naming.signature scope.names t)
  term_extends scope t sort has means =
      (term_matches naming.signature well spelled scope.names t
      (term_named naming.signature scope.variables scope.names t sort has.variables means)).extends

  pub gates_in : (open_list : Bool) (gates : List ℕ) → Every (HasWordAsName naming) gates
      → ExtendsIn open_list (gates_text naming gates) (gates_words naming gates)
  gates_in open_list gates each =
      commas_in open_list (gate_text naming) (λ (gate : ℕ). gate_word naming gate ∷ []) gates
      (every_map (HasWordAsName naming)
      (λ (gate : ℕ). ExtendsIn open_list (gate_text naming gate) (gate_word naming gate ∷ [])) gates
      (λ gate is. name_in open_list (gate_text naming gate) is) each)

  gates_open : (gate : ℕ) (gates : List ℕ) → HasWordAsName naming gate → OpensList (gates_text naming (gate ∷ gates))
  gates_open gate gates is = first_opens (gate_text naming gate) (map (gate_text naming) gates) (word_opens (gate_text naming gate) is)

  -- gates in square brackets
  pub square_gates_extend : (gate : ℕ) (gates : List ℕ) → Every (HasWordAsName naming) (gate ∷ gates)
      → Extends (square (gates_text naming (gate ∷ gates))) (square_list_words (map (λ (g : ℕ). gate_word naming g ∷ []) (gate ∷ gates)))
  square_gates_extend gate gates each =
      square_extends (gates_text naming (gate ∷ gates)) (gates_words naming (gate ∷ gates)) (gates_open gate gates each.0)
      (gates_in false (gate ∷ gates) each)

  pub gate_list_extends : (gates : List ℕ) → Every (HasWordAsName naming) gates
      → Extends (square_list (map (gate_text naming) gates)) (square_list_words (map (λ (g : ℕ). gate_word naming g ∷ []) gates))
  gate_list_extends [] each = nothing_extends
  gate_list_extends (gate ∷ gates) each = square_gates_extend gate gates each

  pub declared_extends : (x : Variable) → IsVariableNamed x → SortMeans naming.signature x.sort
      → Extends (declared_text naming x) (declared_words naming x)
  declared_extends x is sorted =
      subst (λ (bytes : List ℕ). Extends bytes (declared_words naming x))
      (sym (append_assoc x.name (codes ":") (sort_text naming.signature x.sort)))
      (extends_joined x.name (58 ∷ sort_text naming.signature x.sort) (name_word x.name ∷ [])
      (a_word COLON (codes ":") ∷ name_word (sort_text naming.signature x.sort) ∷ []) (name_in false x.name is)
      (colon_stays (sort_text naming.signature x.sort))
      (colon_extends (sort_text naming.signature x.sort) (sort_named_well naming.signature spelled x.sort sorted)))

  each_declared : (xs : List Variable) → Every IsVariableNamed xs → Every (λ (x : Variable). SortMeans naming.signature x.sort) xs
      → Every (λ (x : Variable). Extends (declared_text naming x) (declared_words naming x)) xs
  each_declared [] named sorted = tt
  each_declared (x ∷ xs) named sorted = (declared_extends x named.0 sorted.0, each_declared xs named.1 sorted.1)

  pub declarations_extend : (xs : List Variable) → Every IsVariableNamed xs
      → Every (λ (x : Variable). SortMeans naming.signature x.sort) xs
      → Extends (declarations_text naming xs) (declarations_words naming xs)
  declarations_extend xs named sorted =
      commas_in false (declared_text naming) (declared_words naming) xs (each_declared xs named sorted)

  -- ---- Tests

  sides_extend : (scope : PrintedScope) (test : Test) → HasScopeNames naming scope → TestMeans naming scope test → (left_out : Bool)
      → is_constant naming.truth test.right ≡ left_out
      → Extends (if left_out then term_text naming.signature scope.names test.left else equation_text naming scope.names test)
      (sides_words naming scope.names test left_out)
  sides_extend scope test has means true is = term_extends scope test.left means.sort has means.left
  sides_extend scope test has means false is =
      let left : List Word = term_words naming.signature scope.names test.left in
      let right : List Word = term_words naming.signature scope.names test.right in
      subst (λ (ws : List Word). Extends (equation_text naming scope.names test) ws)
      (append_assoc left (a_word EQUALS (codes "=") ∷ []) right)
      (ends_before (term_text naming.signature scope.names test.left ++ codes " = ") (term_text naming.signature scope.names test.right)
      (left ++ a_word EQUALS (codes "=") ∷ []) right
      (ends_behind (term_text naming.signature scope.names test.left) (codes " = ") left (a_word EQUALS (codes "=") ∷ [])
      (term_extends scope test.left means.sort has means.left) (blank_apart (codes "= ")) equals_whole)
      (term_extends scope test.right means.sort has (means.written is)))

  premiss_opens : (scope : PrintedScope) (test : Test) → HasScopeNames naming scope → TestMeans naming scope test → (left_out : Bool)
      → OpensList (if left_out then term_text naming.signature scope.names test.left else equation_text naming scope.names test)
  premiss_opens scope test has means true =
      phrase_opens scope.variables scope.names test.left means.sort has.variables means.left
  premiss_opens scope test has means false =
      opens_joined (term_text naming.signature scope.names test.left ++ codes " = ")
      (term_text naming.signature scope.names test.right)
      (opens_joined (term_text naming.signature scope.names test.left) (codes " = ")
      (phrase_opens scope.variables scope.names test.left means.sort has.variables means.left))

  pub test_extends : (scope : PrintedScope) (test : Test) → HasScopeNames naming scope → TestMeans naming scope test
      → Extends (test_text naming scope.names test) (test_words naming scope.names test)
  test_extends scope test has means =
      square_extends (premiss_text naming scope.names test) (sides_words naming scope.names test (is_constant naming.truth test.right))
      (premiss_opens scope test has means (is_constant naming.truth test.right))
      (sides_extend scope test has means (is_constant naming.truth test.right) refl)

  pub predicate_extends : (scope : PrintedScope) (test : Option Test) → HasScopeNames naming scope → PredicateMeans naming scope test
      → Extends (predicate_text naming scope.names test) (predicate_words naming scope.names test)
  predicate_extends scope None has means = nothing_extends
  predicate_extends scope (Some test) has means =
      blank_extends (test_text naming scope.names test) (test_words naming scope.names test) (test_extends scope test has means)

  pub predicate_stays : (names : List Variable) (test : Option Test) → StaysApart (predicate_text naming names test)
  predicate_stays names None = nothing_stays
  predicate_stays names (Some test) = blank_stays (test_text naming names test)

  -- ---- Offers

  mark_cut : (rest : List ℕ) (more : List Word) → AreCut false rest more
      → AreCut false (33 ∷ rest) (a_word EXCLAMATION (codes "!") ∷ more)
  mark_cut rest more cut = word_cut false (a_word EXCLAMATION (codes "!")) rest more (omega arith) refl cut

  question_cut : (rest : List ℕ) (more : List Word) → AreCut false rest more
      → AreCut false (63 ∷ rest) (a_word QUESTION (codes "?") ∷ more)
  question_cut rest more cut = word_cut false (a_word QUESTION (codes "?")) rest more (omega arith) refl cut

  pub offers_stay : (names : List Variable) (offers : List Offer) → StaysApart (offers_text naming names offers)
  offers_stay names [] = nothing_stays
  offers_stay names (give t ∷ offers) =
      blank_stays ((codes "!" ++ term_text naming.signature names t) ++ offers_text naming names offers)
  offers_stay names (ask x ∷ offers) = blank_stays ((codes "?" ++ declared_text naming x) ++ offers_text naming names offers)

  value_extends : (scope : PrintedScope) (t : Term) (sort : ℕ) → HasScopeNames naming scope → ValueMeans naming scope t sort
      → Extends (offer_text naming scope.names (give t)) (offer_words naming scope.names (give t))
  value_extends scope t sort has means rest more apart_rest cut =
      blank_cut false (33 ∷ (term_text naming.signature scope.names t ++ rest)) _
      (mark_cut (term_text naming.signature scope.names t ++ rest) (term_words naming.signature scope.names t ++ more)
      (term_extends scope t sort has means rest more apart_rest cut))

  asked_extends : (names : List Variable) (x : Variable) → IsVariableNamed x → SortMeans naming.signature x.sort
      → Extends (offer_text naming names (ask x)) (offer_words naming names (ask x))
  asked_extends names x is sorted rest more apart_rest cut =
      blank_cut false (63 ∷ (declared_text naming x ++ rest)) _
      (question_cut (declared_text naming x ++ rest) (declared_words naming x ++ more)
      (declared_extends x is sorted rest more apart_rest cut))

  pub offers_extend : (scope : PrintedScope) (offers : List Offer) → HasScopeNames naming scope
      → Every IsVariableNamed (asked_variables offers)
      → Every (λ (x : Variable). SortMeans naming.signature x.sort) (asked_variables offers)
      → Every (OfferMeans naming scope) offers
      → Extends (offers_text naming scope.names offers) (offers_words naming scope.names offers)
  offers_extend scope [] has named sorted means = nothing_extends
  offers_extend scope (give t ∷ offers) has named sorted means =
      extends_joined (offer_text naming scope.names (give t)) (offers_text naming scope.names offers)
      (offer_words naming scope.names (give t)) (offers_words naming scope.names offers)
      (value_extends scope t means.0.0 has means.0.1) (offers_stay scope.names offers)
      (offers_extend scope offers has named sorted means.1)
  offers_extend scope (ask x ∷ offers) has named sorted means =
      extends_joined (offer_text naming scope.names (ask x)) (offers_text naming scope.names offers)
      (offer_words naming scope.names (ask x)) (offers_words naming scope.names offers)
      (asked_extends scope.names x named.0 sorted.0) (offers_stay scope.names offers)
      (offers_extend scope offers has named.1 sorted.1 means.1)

  -- ---- Values of `exit` and of calls

  any_extends : (sort : ℕ) → SortMeans naming.signature sort
      → Extends (codes "any " ++ sort_text naming.signature sort)
      (a_word ANY (codes "any") ∷ name_word (sort_text naming.signature sort) ∷ [])
  any_extends sort means rest more apart_rest cut =
      word_cut false (a_word ANY (codes "any")) (32 ∷ (sort_text naming.signature sort ++ rest)) _ (omega arith) refl
      (blank_cut false (sort_text naming.signature sort ++ rest) _
      (name_in false (sort_text naming.signature sort) (sort_named_well naming.signature spelled sort means) rest more apart_rest cut))

  exit_value_extends : (scope : PrintedScope) (value : ExitValue) → HasScopeNames naming scope → ExitValueMeans naming scope value
      → Extends (exit_value_text naming scope.names value) (exit_value_words naming scope.names value)
  exit_value_extends scope (exit_value t) has means = term_extends scope t means.0 has means.1
  exit_value_extends scope (any_of sort) has means = any_extends sort means

  pub exit_values_extend : (scope : PrintedScope) (values : List ExitValue) → HasScopeNames naming scope
      → Every (ExitValueMeans naming scope) values
      → Extends (round_list (map (exit_value_text naming scope.names) values))
      (round_list_words (map (exit_value_words naming scope.names) values))
  exit_values_extend scope values has means =
      round_list_extends (exit_value_text naming scope.names) (exit_value_words naming scope.names) values
      (every_map (ExitValueMeans naming scope)
      (λ (v : ExitValue). Extends (exit_value_text naming scope.names v) (exit_value_words naming scope.names v)) values
      (λ v is. exit_value_extends scope v has is) means)

  each_term : (scope : PrintedScope) (ts : List Term) (sorts : List ℕ) → HasScopeNames naming scope
      → TermsMean naming.signature scope.variables scope.names (argument_list_of ts) sorts
      → Every (λ (t : Term). Extends (term_text naming.signature scope.names t) (term_words naming.signature scope.names t)) ts
  each_term scope [] sorts has means = tt
  each_term scope (t ∷ ts) [] has means = absurd means
  each_term scope (t ∷ ts) (s ∷ ss) has means = (term_extends scope t s has means.0, each_term scope ts ss has means.1)

  pub values_extend : (scope : PrintedScope) (ts : List Term) (sorts : List ℕ) → HasScopeNames naming scope
      → TermsMean naming.signature scope.variables scope.names (argument_list_of ts) sorts
      → Extends (round_list (map (term_text naming.signature scope.names) ts))
      (round_list_words (map (term_words naming.signature scope.names) ts))
  values_extend scope ts sorts has means =
      round_list_extends (term_text naming.signature scope.names) (term_words naming.signature scope.names) ts
      (each_term scope ts sorts has means)

  -- ---- Variables of `let`

  binding_extends : (scope : PrintedScope) (bound : Variable × Term) → HasScopeNames naming scope → IsVariableNamed bound.0
      → SortMeans naming.signature bound.0.sort → ValueMeans naming scope bound.1 bound.0.sort
      → Extends (binding_text naming scope.names bound) (binding_words naming scope.names bound)
  binding_extends scope bound has named sorted means =
      ends_before (declared_text naming bound.0 ++ codes " = ") (term_text naming.signature scope.names bound.1)
      (declared_words naming bound.0 ++ a_word EQUALS (codes "=") ∷ []) (term_words naming.signature scope.names bound.1)
      (ends_behind (declared_text naming bound.0) (codes " = ") (declared_words naming bound.0) (a_word EQUALS (codes "=") ∷ [])
      (declared_extends bound.0 named sorted) (blank_apart (codes "= ")) equals_whole)
      (term_extends scope bound.1 bound.0.sort has means)

  each_binding : (scope : PrintedScope) (bindings : List (Variable × Term)) → HasScopeNames naming scope
      → Every IsVariableNamed (map (λ (b : Variable × Term). b.0) bindings)
      → Every (λ (x : Variable). SortMeans naming.signature x.sort) (map (λ (b : Variable × Term). b.0) bindings)
      → Every (λ (b : Variable × Term). ValueMeans naming scope b.1 b.0.sort) bindings
      → Every (λ (b : Variable × Term). Extends (binding_text naming scope.names b) (binding_words naming scope.names b)) bindings
  each_binding scope [] has named sorted means = tt
  each_binding scope (b ∷ bindings) has named sorted means =
      (binding_extends scope b has named.0 sorted.0 means.0, each_binding scope bindings has named.1 sorted.1 means.1)

  pub bindings_extend : (scope : PrintedScope) (bindings : List (Variable × Term)) → HasScopeNames naming scope
      → Every IsVariableNamed (map (λ (b : Variable × Term). b.0) bindings)
      → Every (λ (x : Variable). SortMeans naming.signature x.sort) (map (λ (b : Variable × Term). b.0) bindings)
      → Every (λ (b : Variable × Term). ValueMeans naming scope b.1 b.0.sort) bindings
      → Extends (commas (map (binding_text naming scope.names) bindings)) (commas_words (map (binding_words naming scope.names) bindings))
  bindings_extend scope bindings has named sorted means =
      commas_in false (binding_text naming scope.names) (binding_words naming scope.names) bindings
      (each_binding scope bindings has named sorted means)

  -- ---- Signs

  interleaving_whole : AreWhole (codes " ||| ") (a_word INTERLEAVING (codes "|||") ∷ [])
  interleaving_whole =
      space_ends (codes "||| ") (a_word INTERLEAVING (codes "|||") ∷ [])
      (word_ends INTERLEAVING (codes "|||") 32 (omega arith) refl (λ (rest : List ℕ). refl) refl)

  full_whole : AreWhole (codes " || ") (a_word FULL_SYNCHRONISATION (codes "||") ∷ [])
  full_whole =
      space_ends (codes "|| ") (a_word FULL_SYNCHRONISATION (codes "||") ∷ [])
      (word_ends FULL_SYNCHRONISATION (codes "||") 32 (omega arith) refl (λ (rest : List ℕ). refl) refl)

  closed_gates : (rest : List ℕ) (more : List Word) → AreCut false rest more
      → AreCut true (93 ∷ 124 ∷ 32 ∷ rest) (a_word GATES_CLOSE (codes "]|") ∷ more)
  closed_gates rest more cut =
      word_cut true (a_word GATES_CLOSE (codes "]|")) (32 ∷ rest) more (omega arith) refl (blank_cut false rest more cut)

  spaced_gates : (bytes rest : List ℕ) (words more : List Word) → ExtendsIn true bytes words → AreCut false rest more → (arrow : Bool)
      → AreCut true ((if arrow then codes " " ++ bytes else bytes) ++ (93 ∷ 124 ∷ 32 ∷ rest))
      (words ++ a_word GATES_CLOSE (codes "]|") ∷ more)
  spaced_gates bytes rest words more inside cut true =
      blank_cut true (bytes ++ (93 ∷ 124 ∷ 32 ∷ rest)) _
      (inside (93 ∷ 124 ∷ 32 ∷ rest) _ (apart 93 (124 ∷ 32 ∷ rest) refl refl) (closed_gates rest more cut))
  spaced_gates bytes rest words more inside cut false =
      inside (93 ∷ 124 ∷ 32 ∷ rest) _ (apart 93 (124 ∷ 32 ∷ rest) refl refl) (closed_gates rest more cut)

  gates_whole : (bytes : List ℕ) (words : List Word) → ExtendsIn true bytes words
      → AreWhole (between_blanks (codes "|" ++ square bytes ++ codes "|"))
      (a_word GATES_OPEN (codes "|[") ∷ (words ++ a_word GATES_CLOSE (codes "]|") ∷ []))
  gates_whole bytes words inside rest more cut =
      subst (λ (ws : List Word). AreCut false (between_blanks (codes "|" ++ square bytes ++ codes "|") ++ rest)
      (a_word GATES_OPEN (codes "|[") ∷ ws)) (sym (append_assoc words (a_word GATES_CLOSE (codes "]|") ∷ []) more))
      (subst (λ (bs : List ℕ). AreCut false (32 ∷ 124 ∷ 91 ∷ bs)
      (a_word GATES_OPEN (codes "|[") ∷ (words ++ a_word GATES_CLOSE (codes "]|") ∷ more)))
      (sym (five_assoc (spaced 62 bytes) (codes "]") (codes "|") (codes " ") rest))
      (blank_cut false (124 ∷ 91 ∷ (spaced 62 bytes ++ (93 ∷ 124 ∷ 32 ∷ rest))) _
      (word_cut false (a_word GATES_OPEN (codes "|[")) (spaced 62 bytes ++ (93 ∷ 124 ∷ 32 ∷ rest)) _ (omega arith) refl
      (spaced_gates bytes rest words more inside cut (begins_with_sign 62 bytes)))))

  pub meet_whole : (scope : PrintedScope) (meet : SynchronisationSet) → HasScopeNames naming scope → MeetMeans naming scope meet
      → AreWhole (between_blanks (sign_text naming meet)) (meet_words naming meet)
  meet_whole scope no_gates has means = interleaving_whole
  meet_whole scope all_gates has means = full_whole
  meet_whole scope (at_gates gates) has means =
      gates_whole (gates_text naming gates) (gates_words naming gates)
      (gates_in true gates (gates_named_well naming scope gates has means))

  enabling_whole : AreWhole (codes " >> ") (a_word ENABLING (codes ">>") ∷ [])
  enabling_whole =
      space_ends (codes ">> ") (a_word ENABLING (codes ">>") ∷ [])
      (word_ends ENABLING (codes ">>") 32 (omega arith) refl (λ (rest : List ℕ). refl) refl)

  accept_whole : AreWhole (codes "accept ") (a_word ACCEPT (codes "accept") ∷ [])
  accept_whole = word_ends ACCEPT (codes "accept") 32 (omega arith) refl (λ (rest : List ℕ). refl) refl

  pub in_whole : AreWhole (codes " in ") (a_word IN (codes "in") ∷ [])
  in_whole =
      space_ends (codes "in ") (a_word IN (codes "in") ∷ [])
      (word_ends IN (codes "in") 32 (omega arith) refl (λ (rest : List ℕ). refl) refl)

  pub enable_whole : (xs : List Variable) → Every IsVariableNamed xs → Every (λ (x : Variable). SortMeans naming.signature x.sort) xs
      → AreWhole (between_blanks (enable_sign naming xs)) (enable_words naming xs)
  enable_whole [] named sorted = enabling_whole
  enable_whole (x ∷ xs) named sorted =
      let declared : List ℕ = declarations_text naming (x ∷ xs) in
      let words : List Word = declarations_words naming (x ∷ xs) in
      subst (λ (bytes : List ℕ). AreWhole (codes " >> accept " ++ bytes) (enable_words naming (x ∷ xs)))
      (sym (append_assoc declared (codes " in") (codes " ")))
      (ends_joined (codes " >> accept ") (declared ++ codes " in ")
      (a_word ENABLING (codes ">>") ∷ a_word ACCEPT (codes "accept") ∷ []) (words ++ a_word IN (codes "in") ∷ [])
      (ends_joined (codes " >> ") (codes "accept ") (a_word ENABLING (codes ">>") ∷ [])
      (a_word ACCEPT (codes "accept") ∷ []) enabling_whole accept_whole)
      (ends_behind declared (codes " in ") words (a_word IN (codes "in") ∷ []) (declarations_extend (x ∷ xs) named sorted)
      (blank_apart (codes "in ")) in_whole))
