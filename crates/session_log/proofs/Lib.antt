pub mod ResultLemmas
pub mod LineLemmas
pub mod EntryLemmas
pub mod TextLemmas
pub mod CourseLemmas
pub mod ValueLemmas
pub mod ReplayLemmas
pub mod HandedOn
