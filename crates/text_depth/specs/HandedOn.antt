-- What crates above this one need of the crates below it.
pub use Rattle.ll_engine.specs.Language.{ContextFree, IsSentence, IsLeftmostDerivation}
pub use Rattle.lotos_lexer.specs.Tokens as tokens
pub use Rattle.lotos_lexer.specs.Tokens.{tokens_of}
pub use Rattle.lotos_lexer.specs.declared.tokens.Token.{Token}
unfoldable pub use Rattle.lotos_rows.specs.Rows.{grammar_from}
pub use Rattle.lotos_rows.specs.Starts.{IsWrittenSpecification, AreOptionalTerms, AreItems}
pub use Rattle.lotos_rows.specs.Words.{left_out}
pub use Rattle.lotos_rows.specs.declared.starts.TheConstants as starts
pub use Rattle.tree_building.specs.Reading.{IsTypesReading, IsTypesFault, node_limit, IsRead, IsFault, IsFaultWithin, nodes_of_items}
pub use Rattle.tree_building.specs.Reading.{IsOrderReadFault, IsOrderReading, IsSpecificationFault, IsSpecificationReading, IsTermsFault}
pub use Rattle.tree_building.specs.Reading.{IsTermsReading}
pub use Rattle.tree_building.specs.ReadingLaws.{HasOneOutcome, TextsHaveOneOutcome}
pub use Rattle.tree_building.specs.Sentences.{kind_of}
pub use Rattle.tree_building.specs.declared.fault.ReadFault.{ReadFault}
pub use Rattle.tree_building.specs.declared.fault.ReadFault as read_fault
pub use Rattle.tree_building.specs.declared.fault.ReadFault.TheVariants as read_faults
pub use Rattle.tree_building.specs.declared.fault.ReadFault.TheVariants.{TooLong, BadByte, OpenComment, Syntax, TooDeep, NoMemory}
