pub mod UnlistedLemmas
pub mod TurnLemmas
pub mod OccurrenceLemmas
pub mod InstanceLemmas
pub mod WeightLemmas
pub mod FormLemmas
pub mod NothingLemmas
