use Rattle.spec_acceptance.proofs.OneFault.{data_are_well_formed}
use Rattle.spec_acceptance.proofs.outcome_laws.data_are_well_formed.Goals as goal

pub returns : goal.returns
returns c = data_are_well_formed
