-- What crates above this one need of the crates below it.
pub use Rattle.lotos_rows.proofs.ReadableTexts.{specification_readable, items_readable}
pub use Rattle.tree_building.proofs.AllGiven.{rows_have}
pub use Rattle.tree_building.proofs.Outcomes.{all_have_one_outcome}
