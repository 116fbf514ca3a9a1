use Rattle.behaviour_instances.proofs.InstanceLemmas.{of_signatures, states_suit}
use Rattle.behaviour_instances.proofs.laws.instances_are_of_signatures.Goals as goal

pub returns-clause-signatures : goal.returns-clause-signatures
returns-clause-signatures c = of_signatures

pub returns-clause-states : goal.returns-clause-states
returns-clause-states c = states_suit
