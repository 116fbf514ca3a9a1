pub mod FollowLemmas
pub mod NumberLemmas
pub mod GateLemmas
pub mod ScopeLemmas
pub mod DeclaredLemmas
mod EntryLemmas
pub mod SameLookups
pub mod SameReadings
pub mod SameResolutions
pub mod TokenOrder
pub mod LexedOrder
pub mod TermPlaceLemmas
pub mod PartPlaceLemmas
pub mod BehaviourPlaceLemmas
pub mod TextPlaceLemmas
pub mod ReadLemmas
pub mod GateListLemmas
pub mod HandedOn
