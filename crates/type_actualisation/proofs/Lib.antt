pub mod FaultLemmas
pub mod BringingLemmas
mod PairLemmas
pub mod FormalLemmas
pub mod MapLemmas
pub mod DataLemmas
pub mod BroughtLemmas
pub mod FormalListLemmas
pub mod OwnLemmas
pub mod TypesLemmas
pub mod OneFormalLemmas
pub mod BodyLemmas
pub mod HandedOn
