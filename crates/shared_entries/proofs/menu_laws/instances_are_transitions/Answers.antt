use Rattle.shared_entries.proofs.InstanceLemmas.{instances_are_transitions}
use Rattle.shared_entries.proofs.menu_laws.instances_are_transitions.Goals as goal

pub returns : goal.returns
returns c = instances_are_transitions c.transitions_are_derived.ensures
