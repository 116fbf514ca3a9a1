use Rattle.session_laws.proofs.BehavioursMeant.{behaviours_mean_themselves}
use Rattle.session_laws.proofs.behaviour_meanings.resolved_behaviours_mean_themselves.Goals as goal

pub returns : goal.returns
returns c = behaviours_mean_themselves
