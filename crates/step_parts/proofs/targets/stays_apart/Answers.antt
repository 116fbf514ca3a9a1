use Rattle.step_parts.proofs.NodeLemmas.{apart_other}
use Rattle.step_parts.proofs.targets.stays_apart.Goals as goal

pub returns-in_default : goal.returns-in_default
returns-in_default c = apart_other c.args.behaviour.now c.in_default.not-Stop c.in_default.not-Call
