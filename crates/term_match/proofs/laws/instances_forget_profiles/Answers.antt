use Rattle.term_match.proofs.InstanceLemmas.{instance_bare, binding_bare, instance_of}
use Rattle.term_match.proofs.laws.instances_forget_profiles.Goals as goal

pub returns-clause-instances : goal.returns-clause-instances
returns-clause-instances c = instance_bare

pub returns-clause-bindings : goal.returns-clause-bindings
returns-clause-bindings c = binding_bare

pub returns-clause-are_of : goal.returns-clause-are_of
returns-clause-are_of c = instance_of
