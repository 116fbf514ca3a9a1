pub mod NodePlaceLemmas
pub mod CandidateLemmas
pub mod ExtendLemmas
pub mod SkipLemmas
pub mod RuleLemmas
pub mod JoiningLemmas
pub mod PlaceLemmas
pub mod PairLemmas
