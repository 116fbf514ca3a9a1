pub mod SortedSides
pub mod SortedSidesFacts
pub mod BookCanon
pub mod BookCanonFacts
pub mod Refusal
pub mod HandedOn
