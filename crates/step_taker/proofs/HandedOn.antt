-- What crates above this one need of the crates below it.
pub use Rattle.step_parts.proofs.HandedOn.{states_suit}
pub use Rattle.step_parts.proofs.NodeLemmas.{first_terms, no_values, second_terms}
pub use Rattle.step_parts.proofs.OfferLemmas.{more_of}
pub use Rattle.step_parts.proofs.TargetLemmas.{closed_state}
