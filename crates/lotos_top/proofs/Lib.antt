mod BeginLemmas
mod CallLemmas
mod CauseLemmas
mod FlatteningLemmas
mod BisimilarityLemmas
mod InductionLemmas
mod HeadLemmas
mod HeadlineLemmas
mod OpeningLemmas
mod RunLemmas
mod ServingLemmas
mod SettledLemmas
mod WorkLemmas
pub mod HandedOn
