-- What crates above this one need of the crates below it.
pub use Rattle.shared_entries.proofs.HandedOn.{ordered_entry, held_before, holds_after}
pub use Rattle.step_taker.proofs.HandedOn.{more_of}
