pub mod OneSortLemmas
pub mod UnifierLemmas
