-- What crates above this one need of the crates below it.
pub use Rattle.certificate_theory.proofs.Each.{each_front, each_back, each_more}
pub use Rattle.certificate_theory.proofs.RequirementLemmas.{renamed_holds}
