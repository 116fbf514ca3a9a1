-- What crates above this one need of the crates below it.
pub use Rattle.menu_builder.proofs.HandedOn.{ordered_entry}
pub use Rattle.menu_builder.proofs.ListedLemmas.{unchanged_gates}
pub use Rattle.event_offers.proofs.KeepingLemmas.{held_before, holds_after}
