-- The law of flat texts that are read: their bytes are read back as the same data and the same specification.
use Rattle.std.specs.Prelude.{◌≡◌, ◌+◌, ◌<◌, ◌^◌, ℕ, List, length}
use Rattle.lotos_base.specs.Equation.{Data}
use Rattle.lotos_lexer.specs.declared.tokens.Token.{Token}
use Rattle.lotos_lexer.specs.Tokens as lexed
use Rattle.lotos_lexer.specs.Tokens.{tokens_of}
use Rattle.lotos_rows.specs.Starts.{IsWrittenSpecification}
use Rattle.syntax_trees.specs.TakenItems.{without_items}
use Rattle.syntax_trees.specs.WrittenDefinition.{WrittenSpecification}
use Rattle.behaviour_semantics.specs.Behaviour.{Specification}
use Rattle.printed_texts.specs.BehaviourText.{process_names}
use Rattle.scope_parts.specs.Resolution.{resolved}
use Rattle.scope_parts.specs.Definitions.{SpecificationIs}
use Rattle.session_laws.specs.TextNames.{HasTextNames}
use Rattle.flat_text.specs.FlatText.{flat_text}
use Rattle.session_laws.specs.WordLaws.{IsFittingSentence}
use Rattle.session_laws.specs.DataLaws.{AreDataOfText}
use Rattle.session_laws.specs.FlatReadings.{IsSameReading}
use Rattle.session_laws.specs.FlatTextLaws.{HasSpecificationNames}

-- The flat text of data and of a specification over them, for which a text stands, is cut into tokens that are a specification by the
-- grammar, which stands for the same specification, and whose types come to the same data.
pub record IsFlatTextReadBack (number : ℕ) (data_ : Data) (specification : Specification) : Type 0 where
  pub tokens : List Token
  pub cut_into : tokens_of number (flat_text data_ specification) ≡ lexed.Tokens tokens
  pub sentence :
      IsFittingSentence (IsWrittenSpecification (flat_text data_ specification)) (IsSameReading data_ specification) tokens

abbrev pub FlatTextsAreReadBack : Type 0
FlatTextsAreReadBack = (number : ℕ) (source : List ℕ) (source_tokens : List Token) (source_tree : WrittenSpecification) (data_ : Data)
    (specification : Specification)
    → AreDataOfText data_
    → HasTextNames data_.signature
    → HasSpecificationNames specification
    → 3 + (length (process_names specification) + length (process_names specification)) < 2 ^ 64
    → IsWrittenSpecification source source_tokens source_tree
    → SpecificationIs data_.signature (without_items source_tree) (resolved specification)
    → IsFlatTextReadBack number data_ specification
