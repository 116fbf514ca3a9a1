pub mod CallLemmas
pub mod NestedLemmas
pub mod ResolverLemmas
pub mod StandingLemmas
