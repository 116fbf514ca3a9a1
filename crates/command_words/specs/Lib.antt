pub mod Words
pub mod HandedOn
