use Rattle.induct_check.proofs.TreeSteps.{known_patterns}
use Rattle.induct_check.proofs.patterns.patterns_behind.Goals as goal

pub returns-in-Ok-clause-known : goal.returns-in-Ok-clause-known
returns-in-Ok-clause-known c = known_patterns c.in-Ok.patterns.items c.in-Ok.ensures.known
