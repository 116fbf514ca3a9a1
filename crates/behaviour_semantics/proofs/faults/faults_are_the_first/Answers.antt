use Rattle.behaviour_semantics.proofs.FirstFaults.{the_first, none_there, nodes_there}
use Rattle.behaviour_semantics.proofs.faults.faults_are_the_first.Goals as goal

pub returns : goal.returns
returns c = record { first = the_first; none = none_there; nodes = nodes_there }
