use Rattle.certificate_theory.proofs.IdentityTest.{identity_is_decided}
use Rattle.certificate_theory.proofs.identity.identity_of_behaviours_is_decided.Goals as goal

pub returns : goal.returns
returns c = identity_is_decided
