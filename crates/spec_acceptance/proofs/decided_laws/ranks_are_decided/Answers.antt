use Rattle.spec_acceptance.proofs.DecidedLemmas.{ranks_are_decided}
use Rattle.spec_acceptance.proofs.decided_laws.ranks_are_decided.Goals as goal

pub returns : goal.returns
returns c = ranks_are_decided
