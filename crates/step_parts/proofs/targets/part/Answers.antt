use Rattle.behaviour_tree.specs.BehaviourTerms.{profiles_in}
use Rattle.behaviour_tree.specs.BehaviourView.{behaviour_of}
use Rattle.step_parts.proofs.NodeLemmas.{no_pair_closes, no_pair_terms, no_values}
use Rattle.step_parts.proofs.targets.part.Goals as goal

pub returns-clause-same : goal.returns-clause-same
returns-clause-same c = no_values c.new.result.items (behaviour_of c.args.behaviour.value) c.new.ensures.items

pub returns-clause-terms : goal.returns-clause-terms
returns-clause-terms c = λ signature h.
    no_pair_terms signature (profiles_in c.args.behaviour.value) c.new.result.items c.new.ensures.items h

pub returns-clause-closed_parts : goal.returns-clause-closed_parts
returns-clause-closed_parts c = λ signature specification h.
    no_pair_closes signature specification c.new.result.items (behaviour_of c.args.behaviour.value) c.new.ensures.items h
