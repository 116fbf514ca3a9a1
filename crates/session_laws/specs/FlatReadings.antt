-- The words of the flat text of data and a specification that a text stands for are read as the same data and specification.
use Rattle.std.specs.Prelude.{◌≡◌, ◌+◌, ◌<◌, ◌^◌, ℕ, List, length}
use Rattle.lotos_base.specs.Equation.{Data}
use Rattle.lotos_lexer.specs.declared.tokens.Token.{Token}
use Rattle.lotos_lexer.specs.Tokens as lexed
use Rattle.lotos_lexer.specs.Tokens.{tokens_of}
use Rattle.lotos_rows.specs.Starts.{IsWrittenSpecification}
use Rattle.syntax_trees.specs.TakenItems.{without_items}
use Rattle.syntax_trees.specs.WrittenDefinition.{WrittenSpecification}
use Rattle.type_definitions.specs.DeclaredTypes.{types_of}
use Rattle.behaviour_semantics.specs.Behaviour.{Specification}
use Rattle.printed_texts.specs.BehaviourText.{Naming, process_names}
use Rattle.scope_parts.specs.Resolution.{resolved}
use Rattle.scope_parts.specs.Definitions.{SpecificationIs}
use Rattle.declaration_laws.specs.SameSpecification.{AreSameSpecifications}
use Rattle.session_laws.specs.WrittenSpecifications.{IsFlatlyWritten}
use Rattle.flat_text.specs.GivenNames.{given_names}
use Rattle.flat_text.specs.FlatText.{flat_naming}
use Rattle.session_laws.specs.PrintedWords.{AreWords}
use Rattle.session_laws.specs.WordLaws.{IsFittingSentence}
use Rattle.session_laws.specs.FlatWords.{specification_words}
use Rattle.session_laws.specs.TypeWords.{type_words}
use Rattle.session_laws.specs.WrittenData.{AreDataWritten}
use Rattle.session_laws.specs.DataLaws.{AreDataOfText, AreTypesOf}

-- the naming of the flat text of data and a specification
abbrev pub naming_of_flat : Data → Specification → Naming
naming_of_flat data_ specification = flat_naming data_.signature specification (given_names (process_names specification))

-- The tree is written as the flat text of the data and the specification. What is left of it without its types stands for the same
-- specification, and its types have no fault and come to the same data.
pub record IsSameReading (data_ : Data) (specification : Specification) (tree : WrittenSpecification) : Type 0 where
  pub flatly : IsFlatlyWritten (naming_of_flat data_ specification) specification tree
  pub again : Specification
  pub same : AreSameSpecifications specification again
  pub stands : SpecificationIs data_.signature (without_items tree) (resolved again)
  pub types_written : AreDataWritten data_ tree.items
  pub types : AreTypesOf data_ (types_of tree.items)

-- Where the tree of a source text, without its types, stands for a specification over data, a text whose tokens are the words of the
-- flat text of the two is a specification by the grammar, which stands for the same, and whose types come to the same data.
abbrev pub FlatTextsAreReadAsTheSame : Type 0
FlatTextsAreReadAsTheSame = (source : List ℕ) (source_tokens : List Token) (source_tree : WrittenSpecification) (number : ℕ)
    (text : List ℕ) (data_ : Data) (specification : Specification) (tokens : List Token)
    → AreDataOfText data_
    → 3 + (length (process_names specification) + length (process_names specification)) < 2 ^ 64
    → IsWrittenSpecification source source_tokens source_tree
    → SpecificationIs data_.signature (without_items source_tree) (resolved specification)
    → tokens_of number text ≡ lexed.Tokens tokens
    → AreWords text tokens (specification_words (naming_of_flat data_ specification) (type_words data_) specification)
    → IsFittingSentence (IsWrittenSpecification text) (IsSameReading data_ specification) tokens
