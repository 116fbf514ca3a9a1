-- What crates above this one need of the crates below it.
pub use Rattle.certificate_theory.proofs.SameSignatures.{sort_there, operation_there}
