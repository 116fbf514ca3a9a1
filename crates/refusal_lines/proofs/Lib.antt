pub mod OutcomeLemmas
pub mod WordLemmas
pub mod ValueLemmas
pub mod DetailLemmas
pub mod LineLemmas
pub mod HandedOn
