pub mod Bytes
pub mod Cutting
pub mod Kinds
pub mod Lexemes
pub mod Pieces
pub mod Spellings
pub mod Tokens
