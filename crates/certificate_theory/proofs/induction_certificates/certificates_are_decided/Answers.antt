-- By tests that compute.
use Rattle.certificate_theory.proofs.TestedCertificates.{certificate_decided}
use Rattle.certificate_theory.proofs.induction_certificates.certificates_are_decided.Goals as goal

pub returns : goal.returns
returns c = certificate_decided
