-- What crates above this one need of the crates below it.
pub use Rattle.rewriting_theory.specs.Orientation.{NumberedRule, rules_of, IsOrientation}
pub use Rattle.rewriting_theory.specs.Precedence.{Precedence}
