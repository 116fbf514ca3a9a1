-- The words of what is printed of terms and behaviours: the tokens of their texts, each by its kind and its spelling, without blanks and
-- places.
use Rattle.std.specs.Prelude.{◌≡◌, ℕ, List, [], ◌∷◌, ◌++◌, map, Bool, true, false, not, Option, None, Some, slice_get, if◌then◌else◌, codes}
use Rattle.lotos_lexer.specs.declared.tokens.Token.{Token}
use Rattle.lotos_lexer.specs.declared.kinds.TheConstants.{NAME, DIGIT_NAME, SIGN_NAME, HIDE, IN, LET, CHOICE, PAR, I, STOP, EXIT, ANY, ACCEPT, OF, COMMA, SEMICOLON, COLON, EQUALS, EXCLAMATION, QUESTION, ARROW, LEFT_BRACKET, RIGHT_BRACKET, LEFT_PARENTHESIS, RIGHT_PARENTHESIS, CHOICE_SIGN, INTERLEAVING, FULL_SYNCHRONISATION, GATES_OPEN, GATES_CLOSE, DISABLING, ENABLING}
use Rattle.lotos_lexer.specs.Bytes.{first_is}
use Rattle.std.specs.Char.{is_ascii_alphabetic, is_ascii_digit}
use Rattle.lotos_base.specs.Signature.{Signature, Operation, Form, prefix_form, infix_form}
use Rattle.lotos_base.specs.Twins.{has_twin}
use Rattle.lotos_base.specs.Equation.{Variable}
use Rattle.lotos_base.specs.Term.{Term, Terms, variable, node, no_terms, term_then}
use Rattle.lotos_rows.specs.Names.{spelled}
use Rattle.behaviour_semantics.specs.Behaviour.{Behaviour, stop, exit_with, action, inner_action, guard, choice, parallel, hide, enable, disable, let_be, choose_value, choose_gate, par_gate, call, relabel, Test, Offer, give, ask, ExitValue, exit_value, any_of, SynchronisationSet, no_gates, all_gates, at_gates, asked_variables, let_variables}
use Rattle.printed_texts.specs.TermText.{sort_text, variable_text}
use Rattle.printed_texts.specs.BehaviourText.{Naming, gate_text, called_text, is_constant, stands_in_brackets}

-- ---- Words

pub record Word : Type 0 where
  pub kind : ℕ
  pub spelling : List ℕ

-- the token of the text is this word
pub record IsWord (text : List ℕ) (token : Token) (word : Word) : Type 0 where
  pub kind_is : token.kind ≡ word.kind
  pub spelling_is : spelled text token ≡ word.spelling

-- the tokens of the text are these words, one by one
abbrev pub AreWords : List ℕ → List Token → List Word → Type 0
AreWords text [] [] = Unit {0}
AreWords text [] (word ∷ words) = ⊥
AreWords text (token ∷ tokens) [] = ⊥
AreWords text (token ∷ tokens) (word ∷ words) = IsWord text token word × AreWords text tokens words

abbrev pub a_word : ℕ → List ℕ → Word
a_word kind spelling = record { kind = kind; spelling = spelling }

-- the name of a sort, a gate, a variable or a process
abbrev pub name_word : List ℕ → Word
name_word name = a_word NAME name

-- the name of an operation
abbrev pub operation_name_kind : List ℕ → ℕ
operation_name_kind name =
    if first_is is_ascii_alphabetic name then NAME else if first_is is_ascii_digit name then DIGIT_NAME else SIGN_NAME

abbrev pub operation_word : List ℕ → Word
operation_word name = a_word (operation_name_kind name) name

-- words in brackets, and lists of words between commas
abbrev pub round_words : List Word → List Word
round_words words = a_word LEFT_PARENTHESIS (codes "(") ∷ (words ++ a_word RIGHT_PARENTHESIS (codes ")") ∷ [])

abbrev pub square_words : List Word → List Word
square_words words = a_word LEFT_BRACKET (codes "[") ∷ (words ++ a_word RIGHT_BRACKET (codes "]") ∷ [])

abbrev pub commas_words : List (List Word) → List Word
commas_words [] = []
commas_words (words ∷ []) = words
commas_words (words ∷ more ∷ lists) = words ++ a_word COMMA (codes ",") ∷ commas_words (more ∷ lists)

-- ---- Terms

-- the words of a term, and whether they stand in brackets as an operand
pub record WordPhrase : Type 0 where
  pub words : List Word
  pub is_infix : Bool

abbrev pub plain_words : List Word → WordPhrase
plain_words words = record { words = words; is_infix = false }

abbrev pub phrase_words : WordPhrase → List Word
phrase_words phrase = phrase.words

abbrev pub bracketed_words : Bool → List Word → List Word
bracketed_words true words = round_words words
bracketed_words false words = words

abbrev pub operand_words : WordPhrase → List Word
operand_words phrase = bracketed_words phrase.is_infix phrase.words

-- the sort behind an operation that has a twin
abbrev pub sort_words : Signature → Operation → Bool → List Word
sort_words signature operation true = a_word OF (codes "of") ∷ name_word (sort_text signature operation.result) ∷ []
sort_words signature operation false = []

abbrev pub arguments_words : List WordPhrase → List Word
arguments_words [] = []
arguments_words (phrase ∷ phrases) = round_words (commas_words (map phrase_words (phrase ∷ phrases)))

abbrev pub prefix_words : Signature → Operation → List WordPhrase → WordPhrase
prefix_words signature operation phrases =
    plain_words ((operation_word operation.name ∷ arguments_words phrases) ++ sort_words signature operation (has_twin signature operation))

abbrev pub between_words : Operation → WordPhrase → WordPhrase → List Word
between_words operation left right = operand_words left ++ operation_word operation.name ∷ operand_words right

abbrev pub infix_words : Signature → Operation → WordPhrase → WordPhrase → WordPhrase
infix_words signature operation left right = record {
  words =
      bracketed_words (has_twin signature operation) (between_words operation left right)
      ++ sort_words signature operation (has_twin signature operation);
  is_infix = not (has_twin signature operation);
}

abbrev pub application_words : Signature → Operation → Form → List WordPhrase → WordPhrase
application_words signature operation prefix_form phrases = prefix_words signature operation phrases
application_words signature operation infix_form [] = prefix_words signature operation []
application_words signature operation infix_form (left ∷ []) = prefix_words signature operation (left ∷ [])
application_words signature operation infix_form (left ∷ right ∷ []) = infix_words signature operation left right
application_words signature operation infix_form (left ∷ right ∷ third ∷ phrases) =
    prefix_words signature operation (left ∷ right ∷ third ∷ phrases)

abbrev pub node_words : Signature → Option Operation → List WordPhrase → WordPhrase
node_words signature None phrases = plain_words []
node_words signature (Some operation) phrases = application_words signature operation operation.form phrases

abbrev mutual
  pub words_of_term : Signature → List Variable → Term → WordPhrase
  words_of_term signature names (variable n s) = plain_words (name_word (variable_text names n) ∷ [])
  words_of_term signature names (node f ts) = node_words signature (slice_get signature.operations f) (words_of_terms signature names ts)

  pub words_of_terms : Signature → List Variable → Terms → List WordPhrase
  words_of_terms signature names no_terms = []
  words_of_terms signature names (term_then t ts) = words_of_term signature names t ∷ words_of_terms signature names ts

abbrev pub term_words : Signature → List Variable → Term → List Word
term_words signature names t = (words_of_term signature names t).words

-- ---- Parts of behaviours

abbrev pub gate_word : Naming → ℕ → Word
gate_word naming gate = name_word (gate_text naming gate)

abbrev pub gates_words : Naming → List ℕ → List Word
gates_words naming gates = commas_words (map (λ (gate : ℕ). gate_word naming gate ∷ []) gates)

-- a declared variable
abbrev pub declared_words : Naming → Variable → List Word
declared_words naming x =
    name_word x.name ∷ a_word COLON (codes ":") ∷ name_word (sort_text naming.signature x.sort) ∷ []

abbrev pub declarations_words : Naming → List Variable → List Word
declarations_words naming variables = commas_words (map (declared_words naming) variables)

-- a test, without its brackets: one side where the other one is left out
abbrev pub sides_words : Naming → List Variable → Test → Bool → List Word
sides_words naming names test true = term_words naming.signature names test.left
sides_words naming names test false =
    term_words naming.signature names test.left ++ a_word EQUALS (codes "=") ∷ term_words naming.signature names test.right

abbrev pub test_words : Naming → List Variable → Test → List Word
test_words naming names test = square_words (sides_words naming names test (is_constant naming.truth test.right))

abbrev pub predicate_words : Naming → List Variable → Option Test → List Word
predicate_words naming names None = []
predicate_words naming names (Some test) = test_words naming names test

abbrev pub offer_words : Naming → List Variable → Offer → List Word
offer_words naming names (give t) = a_word EXCLAMATION (codes "!") ∷ term_words naming.signature names t
offer_words naming names (ask x) = a_word QUESTION (codes "?") ∷ declared_words naming x

abbrev pub offers_words : Naming → List Variable → List Offer → List Word
offers_words naming names [] = []
offers_words naming names (offer ∷ offers) = offer_words naming names offer ++ offers_words naming names offers

abbrev pub exit_value_words : Naming → List Variable → ExitValue → List Word
exit_value_words naming names (exit_value t) = term_words naming.signature names t
exit_value_words naming names (any_of sort) = a_word ANY (codes "any") ∷ name_word (sort_text naming.signature sort) ∷ []

-- lists in brackets, which are left out where they have no members
abbrev pub round_list_words : List (List Word) → List Word
round_list_words [] = []
round_list_words (words ∷ lists) = round_words (commas_words (words ∷ lists))

abbrev pub square_list_words : List (List Word) → List Word
square_list_words [] = []
square_list_words (words ∷ lists) = square_words (commas_words (words ∷ lists))

abbrev pub meet_words : Naming → SynchronisationSet → List Word
meet_words naming no_gates = a_word INTERLEAVING (codes "|||") ∷ []
meet_words naming all_gates = a_word FULL_SYNCHRONISATION (codes "||") ∷ []
meet_words naming (at_gates gates) =
    a_word GATES_OPEN (codes "|[") ∷ (gates_words naming gates ++ a_word GATES_CLOSE (codes "]|") ∷ [])

abbrev pub enable_words : Naming → List Variable → List Word
enable_words naming [] = a_word ENABLING (codes ">>") ∷ []
enable_words naming (x ∷ variables) =
    a_word ENABLING (codes ">>") ∷ a_word ACCEPT (codes "accept")
    ∷ (declarations_words naming (x ∷ variables) ++ a_word IN (codes "in") ∷ [])

abbrev pub binding_words : Naming → List Variable → Variable × Term → List Word
binding_words naming names bound =
    name_word bound.0.name ∷ a_word COLON (codes ":") ∷ name_word (sort_text naming.signature bound.0.sort)
    ∷ a_word EQUALS (codes "=") ∷ term_words naming.signature names bound.1

abbrev pub gate_choice_words : Naming → ℕ → List ℕ → List Word
gate_choice_words naming gate among =
    gate_word naming gate ∷ a_word IN (codes "in") ∷ square_words (gates_words naming among)

abbrev pub call_words : Naming → List Variable → ℕ → List ℕ → List (List Word) → List Word
call_words naming names number gates values =
    name_word (called_text naming number)
    ∷ (square_list_words (map (λ (gate : ℕ). gate_word naming gate ∷ []) gates) ++ round_list_words values)

-- ---- Behaviours

-- a part, in brackets where it needs some
abbrev pub unit_words : Behaviour → List Word → List Word
unit_words part words = bracketed_words (stands_in_brackets part) words

-- The words of a behaviour of a text, where the names of variables are looked up in these. No text has a relabelling.
abbrev pub behaviour_words : Naming → List Variable → Behaviour → List Word
behaviour_words naming names stop = a_word STOP (codes "stop") ∷ []
behaviour_words naming names (exit_with results) =
    a_word EXIT (codes "exit") ∷ round_list_words (map (exit_value_words naming names) results)
behaviour_words naming names (action gate offers test b) =
    gate_word naming gate ∷ (offers_words naming names offers
    ++ (predicate_words naming (asked_variables offers ++ names) test
    ++ a_word SEMICOLON (codes ";") ∷ unit_words b (behaviour_words naming (asked_variables offers ++ names) b)))
behaviour_words naming names (inner_action b) =
    a_word I (codes "i") ∷ a_word SEMICOLON (codes ";") ∷ unit_words b (behaviour_words naming names b)
behaviour_words naming names (guard test b) =
    test_words naming names test ++ a_word ARROW (codes "->") ∷ unit_words b (behaviour_words naming names b)
behaviour_words naming names (choice b c) =
    unit_words b (behaviour_words naming names b)
    ++ (a_word CHOICE_SIGN (codes "[]") ∷ [] ++ unit_words c (behaviour_words naming names c))
behaviour_words naming names (parallel meet b c) =
    unit_words b (behaviour_words naming names b) ++ (meet_words naming meet ++ unit_words c (behaviour_words naming names c))
behaviour_words naming names (hide gates b) =
    a_word HIDE (codes "hide") ∷ (gates_words naming gates ++ a_word IN (codes "in") ∷ behaviour_words naming names b)
behaviour_words naming names (enable b variables c) =
    unit_words b (behaviour_words naming names b)
    ++ (enable_words naming variables ++ unit_words c (behaviour_words naming (variables ++ names) c))
behaviour_words naming names (disable b c) =
    unit_words b (behaviour_words naming names b)
    ++ (a_word DISABLING (codes "[>") ∷ [] ++ unit_words c (behaviour_words naming names c))
behaviour_words naming names (let_be bindings b) =
    a_word LET (codes "let") ∷ (commas_words (map (binding_words naming names) bindings)
    ++ a_word IN (codes "in") ∷ behaviour_words naming (let_variables bindings ++ names) b)
behaviour_words naming names (choose_value x b) =
    a_word CHOICE (codes "choice") ∷ (declared_words naming x
    ++ a_word CHOICE_SIGN (codes "[]") ∷ behaviour_words naming (x ∷ names) b)
behaviour_words naming names (choose_gate gate among b) =
    a_word CHOICE (codes "choice") ∷ (gate_choice_words naming gate among
    ++ a_word CHOICE_SIGN (codes "[]") ∷ behaviour_words naming names b)
behaviour_words naming names (par_gate gate among meet b) =
    a_word PAR (codes "par") ∷ (gate_choice_words naming gate among
    ++ (meet_words naming meet ++ behaviour_words naming names b))
behaviour_words naming names (call number gates values) =
    call_words naming names number gates (map (term_words naming.signature names) values)
behaviour_words naming names (relabel pairs b) = []
