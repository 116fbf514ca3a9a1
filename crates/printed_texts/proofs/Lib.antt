pub mod BracketLemmas
pub mod TermLemmas
pub mod PartLemmas
pub mod TwinLemmas
pub mod MenuLemmas
pub mod FunctionalityLemmas
