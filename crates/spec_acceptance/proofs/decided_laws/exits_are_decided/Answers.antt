use Rattle.spec_acceptance.proofs.DecidedLemmas.{exits_are_decided}
use Rattle.spec_acceptance.proofs.decided_laws.exits_are_decided.Goals as goal

pub returns : goal.returns
returns c = exits_are_decided
