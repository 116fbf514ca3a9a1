-- What crates above this one need of the crates below it.
pub use Rattle.history_lines.proofs.AnsweredLemmas.{counts_rise, count_rises}
pub use Rattle.history_lines.proofs.HandedOn.{holds_after}
