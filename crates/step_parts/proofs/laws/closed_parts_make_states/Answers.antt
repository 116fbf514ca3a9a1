use Rattle.step_parts.proofs.TargetLemmas.{closed_state}
use Rattle.step_parts.proofs.laws.closed_parts_make_states.Goals as goal

pub returns : goal.returns
returns c = closed_state
