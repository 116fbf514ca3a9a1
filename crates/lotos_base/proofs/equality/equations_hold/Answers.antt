-- One link at the root.
use Rattle.lotos_base.proofs.EqualityLemmas.{equal_instance}
use Rattle.lotos_base.proofs.equality.equations_hold.Goals as goal

pub returns : goal.returns
returns c = equal_instance
