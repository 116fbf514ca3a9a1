-- The law of the bytes of flat texts: their tokens are the words of these texts.
use Rattle.std.specs.Prelude.{◌+◌, ◌<◌, ◌^◌, ℕ, List, length}
use Rattle.lotos_base.specs.Signature.{IsWellFormedSignature}
use Rattle.lotos_base.specs.Equation.{Data}
use Rattle.lotos_lexer.specs.declared.tokens.Token.{Token}
use Rattle.lotos_rows.specs.Starts.{IsWrittenSpecification}
use Rattle.syntax_trees.specs.TakenItems.{without_items}
use Rattle.syntax_trees.specs.WrittenDefinition.{WrittenSpecification}
use Rattle.behaviour_semantics.specs.Behaviour.{Process, Specification}
use Rattle.behaviour_semantics.specs.WellFormed.{Every}
use Rattle.printed_texts.specs.BehaviourText.{process_names}
use Rattle.scope_parts.specs.Resolution.{resolved}
use Rattle.scope_parts.specs.Definitions.{SpecificationIs}
use Rattle.session_laws.specs.TextNames.{IsWordSpelling, HasTextNames}
use Rattle.declaration_laws.specs.DeclarationOrder.{all_variables_of}
use Rattle.flat_text.specs.DataText.{data_text}
use Rattle.flat_text.specs.GivenNames.{given_names}
use Rattle.flat_text.specs.FlatText.{flat_text}
use Rattle.session_laws.specs.PrintedWords.{Word}
use Rattle.session_laws.specs.PieceLaws.{IsCutInto}
use Rattle.session_laws.specs.CutTexts.{AreWhole}
use Rattle.session_laws.specs.BehaviourTextLaws.{IsVariableNamed}
use Rattle.session_laws.specs.FlatWords.{specification_words}
use Rattle.session_laws.specs.FlatReadings.{naming_of_flat}

-- The names of the specification have the form that texts have: its own, and those of its gates, variables and processes.
pub record HasSpecificationNames (specification : Specification) : Type 0 where
  pub name : IsWordSpelling specification.name
  pub gates : Every IsWordSpelling specification.gate_names
  pub variables : Every IsVariableNamed (all_variables_of specification)
  pub processes : Every (λ (p : Process). IsWordSpelling p.name) specification.processes

-- The names that processes are given are such names, where the processes have such names: a `_` and a number go on with a word.
abbrev pub GivenNamesAreWords : Type 0
GivenNamesAreWords = (names : List (List ℕ)) → Every IsWordSpelling names → Every IsWordSpelling (given_names names)

-- The flat text of data and of a specification over them, for which a text stands, is cut into its words: where the lines of the types
-- are the words of the types.
abbrev pub FlatTextsAreCut : Type 0
FlatTextsAreCut = (number : ℕ) (source : List ℕ) (source_tokens : List Token) (source_tree : WrittenSpecification) (data_ : Data)
    (specification : Specification) (types : List Word)
    → IsWellFormedSignature data_.signature
    → HasTextNames data_.signature
    → HasSpecificationNames specification
    → 3 + (length (process_names specification) + length (process_names specification)) < 2 ^ 64
    → IsWrittenSpecification source source_tokens source_tree
    → SpecificationIs data_.signature (without_items source_tree) (resolved specification)
    → AreWhole (data_text data_) types
    → IsCutInto number (flat_text data_ specification) (specification_words (naming_of_flat data_ specification) types specification)
