-- By computation, and by the laws of right certificates.
use Rattle.certificate_theory.proofs.CaseProofs.{commutativity_cases}
use Rattle.certificate_theory.proofs.induction_cases.commutativity_is_certified.Goals as goal

pub returns : goal.returns
returns c = commutativity_cases
