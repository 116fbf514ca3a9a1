-- What a text is read as as a label:
--
--   label = "i" | name { "!" term } | "exit" [ "(" term { "," term } ")" ]
use Rattle.std.specs.Prelude.{◌≡◌, ℕ, List, [], ◌∷◌, None, Some, slice_get}
use Rattle.lotos_base.specs.Names.{AreOneName}
use Rattle.lotos_base.specs.Signature.{Signature}
use Rattle.lotos_base.specs.Term.{Term}
use Rattle.lotos_base.specs.WrittenTerm.{PlacedName, WrittenTerm}
use Rattle.lotos_lexer.specs.declared.kinds.TheConstants.{NAME, I, EXIT, EXCLAMATION}
use Rattle.lotos_lexer.specs.declared.tokens.Token.{Token}
use Rattle.lotos_lexer.specs.Tokens as lexed
use Rattle.lotos_lexer.specs.Tokens.{tokens_of}
use Rattle.lotos_rows.specs.Words.{IsOfKind, Many, Behind}
use Rattle.lotos_rows.specs.Names.{named}
use Rattle.lotos_rows.specs.Terms.{IsTerm, AreArguments}
use Rattle.sort_terms.specs.ReadingOutcome.{ReadingIs, answered}
use Rattle.behaviour_semantics.specs.Behaviour.{Specification}
use Rattle.behaviour_semantics.specs.Label.{Label, inner_event, gate_event, exit_event}
use Rattle.declaration_laws.specs.VisibleGates.{IsOneOf}

-- a label as it is written: the inner event; a gate with values; `exit` with values
pub data WrittenLabel : Type 0 where
  written_inner : WrittenLabel
  written_event : PlacedName → List WrittenTerm → WrittenLabel
  written_exit : List WrittenTerm → WrittenLabel

-- the tokens of the text are this label
pub data IsWrittenLabel (text : List ℕ) : List Token → WrittenLabel → Type 0 where
  an_inner : {word : Token} → IsOfKind I word → IsWrittenLabel text (word ∷ []) written_inner
  an_event : {gate : Token} {tokens : List Token} {values : List WrittenTerm} →
      IsOfKind NAME gate → Many (Behind EXCLAMATION (IsTerm text)) tokens values →
      IsWrittenLabel text (gate ∷ tokens) (written_event (named text gate) values)
  an_exit : {word : Token} {tokens : List Token} {values : List WrittenTerm} →
      IsOfKind EXIT word → AreArguments text tokens values → IsWrittenLabel text (word ∷ tokens) (written_exit values)

-- the written value has one reading, without variables and whatever its sort: the value
abbrev pub IsValueReadAs : Signature → WrittenTerm → Term → Type 0
IsValueReadAs signature w t = (sort : ℕ) × ReadingIs signature [] w None (answered (record { term = t; sort = sort }))

-- the same of written values one by one
abbrev pub AreReadAs : Signature → List WrittenTerm → List Term → Type 0
AreReadAs signature [] [] = Unit {0}
AreReadAs signature (w ∷ ws) (t ∷ ts) = IsValueReadAs signature w t × AreReadAs signature ws ts
AreReadAs signature _ _ = ⊥

-- the specification declares the gate under this name
pub record IsGateNamed (specification : Specification) (name : List ℕ) (g : ℕ) : Type 0 where
  pub declared : IsOneOf specification.gates g
  pub spelling : List ℕ
  pub found : slice_get specification.gate_names g ≡ Some spelling
  pub is_named : AreOneName spelling name

-- the written label is the label
abbrev pub IsLabelOf : Signature → Specification → WrittenLabel → Label → Type 0
IsLabelOf signature specification written_inner inner_event = Unit {0}
IsLabelOf signature specification (written_event name values) (gate_event g terms) =
    IsGateNamed specification name.name g × AreReadAs signature values terms
IsLabelOf signature specification (written_exit values) (exit_event terms) = AreReadAs signature values terms
IsLabelOf signature specification _ _ = ⊥

-- The text is cut into tokens, which are a label as it is written, and this is the label.
pub record IsLabelReading (signature : Signature) (specification : Specification) (text : List ℕ) (label : Label) : Type 0 where
  pub tokens : List Token
  pub written : WrittenLabel
  pub cut_into : tokens_of 0 text ≡ lexed.Tokens tokens
  pub sentence : IsWrittenLabel text tokens written
  pub is_label : IsLabelOf signature specification written label
