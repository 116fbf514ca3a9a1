use Rattle.std.proofs.Common.{◌∙◌, ap, sym, subst}
use Rattle.behaviour_semantics.specs.Behaviour.{Behaviour}
use Rattle.behaviour_semantics.specs.WellFormed.{IsClosedBehaviour}
use Rattle.behaviour_tree.specs.BehaviourTerms.{profiles_in}
use Rattle.behaviour_tree.specs.BehaviourView.{behaviour_of}
use Rattle.behaviour_tree.specs.Over.{AreTermsOf}
use Rattle.behaviour_tree.specs.StateView.{node_profiles, stands_for}
use Rattle.behaviour_tree.specs.declared.states.Node.{Node}
use Rattle.step_taker.proofs.SplitLemmas.{parts_as}
use Rattle.menu_parts.proofs.parts.own_node.Goals as goal

pub returns-clause-same : goal.returns-clause-same
returns-clause-same c = ap stands_for c.in_ok-made.ensures ∙ c.part-node.ensures.same ∙ ap behaviour_of c.in_ok-own.ensures

pub returns-clause-terms : goal.returns-clause-terms
returns-clause-terms c = λ signature h.
    subst (λ (node : Node). AreTermsOf signature (node_profiles node)) (sym c.in_ok-made.ensures)
    (c.part-node.ensures.terms signature (subst (AreTermsOf signature) (sym (ap profiles_in c.in_ok-own.ensures)) h))

pub returns-clause-closed_parts : goal.returns-clause-closed_parts
returns-clause-closed_parts c = λ signature specification h.
    parts_as c.in_ok-made.made.value _ c.in_ok-made.ensures (c.part-node.ensures.closed_parts signature specification
    (subst (λ (b : Behaviour). IsClosedBehaviour signature specification b) (sym (ap behaviour_of c.in_ok-own.ensures)) h))
