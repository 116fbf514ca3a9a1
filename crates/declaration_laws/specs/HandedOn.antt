-- What crates above this one need of the crates below it.
pub use Rattle.certificate_theory.specs.SameData.{AreSameData, AreOneEquation, AreSameEquations}
