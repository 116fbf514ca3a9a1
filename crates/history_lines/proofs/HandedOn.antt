-- What crates above this one need of the crates below it.
pub use Rattle.session_log.proofs.HandedOn.{holds_after, held_before, keeps_both}
pub use Rattle.session_log.proofs.ReplayLemmas.{over_same}
pub use Rattle.session_log.proofs.ValueLemmas.{reading_ground}
