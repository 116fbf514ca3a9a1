pub mod WordsLemmas
mod CutLemmas
pub mod HandedOn
