use Rattle.spec_acceptance.proofs.WholeLemmas.{acceptance_is_determined}
use Rattle.spec_acceptance.proofs.laws.acceptance_is_determined.Goals as goal

pub returns : goal.returns
returns c = acceptance_is_determined
