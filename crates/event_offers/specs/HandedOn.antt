-- What crates above this one need of the crates below it.
pub use Rattle.behaviour_tree.specs.BehaviourView.{terms_of}
pub use Rattle.behaviour_tree.specs.MoveView.{label_of}
pub use Rattle.behaviour_tree.specs.declared.moves.Label.{Label}
