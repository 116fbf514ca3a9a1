use Rattle.session_laws.proofs.BehavioursResolved.{behaviours_are_resolved}
use Rattle.session_laws.proofs.behaviour_meanings.written_behaviours_are_resolved.Goals as goal

pub returns : goal.returns
returns c = behaviours_are_resolved
