-- What crates above this one need of the crates below it.
pub use Rattle.tree_building.proofs.Outcomes.{all_have_one_outcome, same_tokens}
