use Rattle.certificate_theory.proofs.EqualValues.{agree_back}
use Rattle.certificate_theory.proofs.agreement.agreement_is_mutual.Goals as goal

pub returns : goal.returns
returns c = agree_back
