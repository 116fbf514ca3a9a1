use Rattle.spec_acceptance.proofs.OneFault.{types_are_decided}
use Rattle.spec_acceptance.proofs.outcome_laws.types_are_decided.Goals as goal

pub returns : goal.returns
returns c = types_are_decided
