use Rattle.spec_acceptance.proofs.OneFault.{acceptance_has_one_outcome, wanted_files_are_first}
use Rattle.spec_acceptance.proofs.outcome_laws.acceptance_has_one_outcome.Goals as goal

pub returns-clause-one : goal.returns-clause-one
returns-clause-one c = acceptance_has_one_outcome

pub returns-clause-wanted : goal.returns-clause-wanted
returns-clause-wanted c = wanted_files_are_first
