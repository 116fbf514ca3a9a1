pub mod SquareLemmas
pub mod ListLemmas
pub mod TextLemmas
pub mod PartLemmas
pub mod NamingLemmas
pub mod HandedOn
