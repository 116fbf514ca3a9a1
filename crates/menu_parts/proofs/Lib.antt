pub mod OverLemmas
pub mod FormLemmas
pub mod KeptLemmas
pub mod SpreadLemmas
pub mod SpreadKept
pub mod WayLemmas
pub mod MakerLemmas
pub mod HandedOn
