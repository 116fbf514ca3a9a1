-- Laws of the words of what is printed: they are sentences.
use Rattle.std.specs.Prelude.{◌≡◌, ◌≢◌, ◌⊎◌, ℕ, List, [], length, None}
use Rattle.lotos_base.specs.Signature.{Signature, Operation, IsOperation, IsWellFormedSignature, infix_form}
use Rattle.lotos_base.specs.Equation.{Variable}
use Rattle.lotos_base.specs.Term.{Term}
use Rattle.lotos_lexer.specs.declared.tokens.Token.{Token}
use Rattle.lotos_rows.specs.Terms.{IsTerm}
use Rattle.lotos_rows.specs.Behaviours.{IsBehaviourText}
use Rattle.behaviour_semantics.specs.Behaviour.{Behaviour, stop, exit_with, action, inner_action, guard, choice, parallel, hide, enable, disable, let_be, choose_value, choose_gate, par_gate, call, relabel, Process}
use Rattle.printed_texts.specs.BehaviourText.{Naming}
use Rattle.session_laws.specs.WrittenAs.{IsWrittenAs}
use Rattle.session_laws.specs.TermMeanings.{TermMeans}
use Rattle.session_laws.specs.Meanings.{PrintedScope, BehaviourMeans}
use Rattle.session_laws.specs.WrittenBehaviours.{IsBehaviourWritten}
use Rattle.session_laws.specs.PrintedWords.{AreWords, term_words, behaviour_words}

-- infix operations have two arguments, as those that texts declare
abbrev pub HasBinaryInfixes : Signature → Type 0
HasBinaryInfixes signature = (f : ℕ) (o : Operation) → IsOperation signature f o → o.form ≡ infix_form → length o.arguments ≡ 2

-- The behaviour has a form that texts give it: lists that are written have members, and a predicate stands behind offers.
abbrev pub HasTextForm : Behaviour → Type 0
HasTextForm stop = Unit {0}
HasTextForm (exit_with results) = Unit {0}
HasTextForm (action gate offers test b) = ((test ≡ None) ⊎ (offers ≢ [])) × HasTextForm b
HasTextForm (inner_action b) = HasTextForm b
HasTextForm (guard test b) = HasTextForm b
HasTextForm (choice b c) = HasTextForm b × HasTextForm c
HasTextForm (parallel meet b c) = HasTextForm b × HasTextForm c
HasTextForm (hide gates b) = (gates ≢ []) × HasTextForm b
HasTextForm (enable b variables c) = HasTextForm b × HasTextForm c
HasTextForm (disable b c) = HasTextForm b × HasTextForm c
HasTextForm (let_be bindings b) = (bindings ≢ []) × HasTextForm b
HasTextForm (choose_value x b) = HasTextForm b
HasTextForm (choose_gate gate among b) = (among ≢ []) × HasTextForm b
HasTextForm (par_gate gate among meet b) = (among ≢ []) × HasTextForm b
HasTextForm (call number gates values) = Unit {0}
HasTextForm (relabel pairs b) = ⊥

-- The tokens are one thing by the grammar, and this thing fits.
pub record IsFittingSentence {A : Type 0} (one : List Token → A → Type 0) (fits : A → Type 0) (tokens : List Token) : Type 0 where
  pub thing : A
  pub is_one : one tokens thing
  pub fitting : fits thing

-- Tokens of a text that are the words of a term are a term by the grammar, which this term is written as.
abbrev pub TermWordsAreSentences : Type 0
TermWordsAreSentences = (text : List ℕ) (signature : Signature) (visible names : List Variable) (t : Term) (sort : ℕ) (tokens : List Token)
    → IsWellFormedSignature signature
    → HasBinaryInfixes signature
    → TermMeans signature visible names t sort
    → AreWords text tokens (term_words signature names t)
    → IsFittingSentence (IsTerm text) (IsWrittenAs signature names t) tokens

-- and those of a behaviour are a behaviour
abbrev pub BehaviourWordsAreSentences : Type 0
BehaviourWordsAreSentences = (text : List ℕ) (naming : Naming) (processes : List Process) (scope : PrintedScope) (b : Behaviour)
    (tokens : List Token)
    → IsWellFormedSignature naming.signature
    → HasBinaryInfixes naming.signature
    → HasTextForm b
    → BehaviourMeans naming processes scope b
    → AreWords text tokens (behaviour_words naming scope.names b)
    → IsFittingSentence (IsBehaviourText text) (IsBehaviourWritten naming scope.names b) tokens
