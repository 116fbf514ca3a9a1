mod Pieces
pub mod Cuts
mod WrittenTexts
pub mod AnsweredLines
pub mod ServedBytes
mod TurnLemmas
mod SessionTurns
pub mod ReadBytes
pub mod LineLemmas
pub mod NumberLemmas
pub mod RequestLemmas
