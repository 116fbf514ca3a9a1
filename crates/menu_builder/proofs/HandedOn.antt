-- What crates above this one need of the crates below it.
pub use Rattle.draft_parts.proofs.HandedOn.{holds_after, held_before, keeps_both, keeps_itself}
pub use Rattle.draft_parts.proofs.MeetingLemmas.{ends_told, together_told}
pub use Rattle.draft_parts.proofs.TurnLemmas.{at_turn}
pub use Rattle.draft_solving.proofs.SolvingWay.{ordered_entry}
