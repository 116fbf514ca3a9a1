-- What crates above this one need of the crates below it.
unfoldable pub use Rattle.ll_engine.specs.Run.{from_last}
pub use Rattle.lotos_lexer.specs.declared.tokens.Token.{Token}
