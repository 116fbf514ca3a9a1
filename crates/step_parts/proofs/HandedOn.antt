-- What crates above this one need of the crates below it.
pub use Rattle.behaviour_instances.proofs.InstanceLemmas.{of_signatures, states_suit}
pub use Rattle.draft_parts.proofs.HandedOn.{keeps_itself, holds_after, held_before, keeps_both}
