use Rattle.scope_parts.proofs.BehavioursTell.{behaviours_tell}
use Rattle.scope_parts.proofs.fault_laws.behaviours_tell_the_first_fault.Goals as goal

pub returns : goal.returns
returns c = behaviours_tell
