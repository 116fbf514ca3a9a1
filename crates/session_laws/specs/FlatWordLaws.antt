-- The law of the words of flat texts: they are read as the same specification.
use Rattle.std.specs.Prelude.{ℕ, List}
use Rattle.lotos_base.specs.Signature.{IsWellFormedSignature}
use Rattle.lotos_lexer.specs.declared.tokens.Token.{Token}
use Rattle.lotos_rows.specs.Starts.{AreItems, IsWrittenSpecification}
use Rattle.syntax_trees.specs.WrittenItem.{WrittenItem}
use Rattle.syntax_trees.specs.TakenItems.{without_items}
use Rattle.syntax_trees.specs.WrittenDefinition.{WrittenSpecification}
use Rattle.behaviour_semantics.specs.Behaviour.{Specification}
use Rattle.declaration_laws.specs.SameSpecification.{AreSameSpecifications}
use Rattle.printed_texts.specs.BehaviourText.{Naming}
use Rattle.scope_parts.specs.Resolution.{resolved}
use Rattle.scope_parts.specs.Definitions.{SpecificationIs}
use Rattle.session_laws.specs.WrittenSpecifications.{IsFlatNaming, IsFlatlyWritten, renamed}
use Rattle.session_laws.specs.PrintedWords.{Word, AreWords}
use Rattle.session_laws.specs.WordLaws.{HasBinaryInfixes, IsFittingSentence}
use Rattle.session_laws.specs.FlatWords.{specification_words, HaveTextForms}

-- The tree is written as the flat text of the specification, and stands for it but for the names of processes. Its types are read of
-- the words of the types.
pub record IsFlatReading (text : List ℕ) (naming : Naming) (types : List Word) (specification : Specification)
    (tree : WrittenSpecification) : Type 0 where
  pub flatly : IsFlatlyWritten naming specification tree
  pub stands : SpecificationIs naming.signature tree (resolved (renamed naming specification))
  pub type_tokens : List Token
  pub type_words : AreWords text type_tokens types
  pub types_are : AreItems text type_tokens tree.items

-- Tokens of a text that are the words of the flat text of a specification, for which some text stands, are a specification by the
-- grammar, which stands for the very same, but for the names of processes: where tokens that are the words of the types are types.
abbrev pub FlatWordsAreReadAsTheSame : Type 0
FlatWordsAreReadAsTheSame = (text : List ℕ) (naming : Naming) (source : WrittenSpecification) (specification : Specification)
    (types : List Word) (tokens : List Token)
    → IsWellFormedSignature naming.signature
    → HasBinaryInfixes naming.signature
    → IsFlatNaming naming specification
    → HaveTextForms specification
    → SpecificationIs naming.signature source (resolved specification)
    → ((some : List Token) → AreWords text some types → (items : List WrittenItem) × AreItems text some items)
    → AreWords text tokens (specification_words naming types specification)
    → IsFittingSentence (IsWrittenSpecification text) (IsFlatReading text naming types specification) tokens

-- A tree that is flatly written is so still where its types are taken out: it has processes alone behind its `where`.
abbrev pub FlatTreesStay : Type 0
FlatTreesStay = (naming : Naming) (specification : Specification) (tree : WrittenSpecification)
    → IsFlatlyWritten naming specification tree → IsFlatlyWritten naming specification (without_items tree)

-- A specification whose processes have other names is the same.
abbrev pub RenamedSpecificationsAreSame : Type 0
RenamedSpecificationsAreSame = (naming : Naming) (specification : Specification)
    → AreSameSpecifications specification (renamed naming specification)
