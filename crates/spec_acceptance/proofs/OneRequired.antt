-- Types require one list of equations.
pub use Rattle.type_flatten.proofs.OneRequirements.{requirements_are_one}
