pub mod WalkLemmas
pub mod SummaryLemmas
pub mod TextLemmas
pub mod HandedOn
