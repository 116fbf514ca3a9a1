-- What crates above this one need of the crates below it.
pub use Rattle.type_actualisation.specs.ActualisationLaws.{HasActuals}
pub use Rattle.type_presentations.specs.DeclaredOperation.{declared_operation}
