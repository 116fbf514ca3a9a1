pub mod PartLemmas
pub mod PrintedLemmas
mod ComparingLemmas
pub mod ComparedParts
pub mod OneCertificate
mod InducingLemmas
pub mod InducedParts
pub mod OneInduction
pub mod HandedOn
