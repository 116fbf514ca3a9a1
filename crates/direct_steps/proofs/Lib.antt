pub mod GrownLemmas
pub mod ScopeLemmas
