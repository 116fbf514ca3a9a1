-- What crates above this one need of the crates below it.
pub use Rattle.text_depth.proofs.HandedOn.{all_have_one_outcome}
