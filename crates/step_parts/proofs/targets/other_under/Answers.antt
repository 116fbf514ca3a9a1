use Rattle.std.proofs.Common.{ap, sym, ◌∙◌, subst}
use Rattle.behaviour_semantics.specs.Behaviour.{relabel}
use Rattle.behaviour_semantics.specs.WellFormed.{IsClosedBehaviour}
use Rattle.behaviour_tree.specs.BehaviourTerms.{profiles_in}
use Rattle.behaviour_tree.specs.BehaviourView.{behaviour_of}
use Rattle.behaviour_tree.specs.Over.{AreTermsOf}
use Rattle.behaviour_tree.specs.StateView.{node_profiles, stands_for}
use Rattle.behaviour_tree.specs.declared.behaviours.Beh.{Beh}
use Rattle.behaviour_tree.specs.declared.states.Node.{Node}
use Rattle.step_parts.specs.TargetNodes.{HasClosedParts}
use Rattle.step_parts.proofs.targets.other_under.Goals as goal

pub returns-clause-same : goal.returns-clause-same
returns-clause-same c =
    ap (λ (n : Node). relabel c.args.pairs.items (stands_for n)) c.in_ok-node.ensures
    ∙ ap (relabel c.args.pairs.items) (c.part.ensures.same ∙ ap behaviour_of c.in_ok-inside.ensures)

pub returns-clause-terms : goal.returns-clause-terms
returns-clause-terms c = λ signature h.
    subst (λ (n : Node). AreTermsOf signature (node_profiles n)) (sym c.in_ok-node.ensures)
    (c.part.ensures.terms signature (subst (λ (b : Beh). AreTermsOf signature (profiles_in b)) (sym c.in_ok-inside.ensures) h))

pub returns-clause-closed_parts : goal.returns-clause-closed_parts
returns-clause-closed_parts c = λ signature specification h.
    subst (λ (n : Node). HasClosedParts n) (sym c.in_ok-node.ensures)
    (c.part.ensures.closed_parts signature specification
    (subst (λ (b : Beh). IsClosedBehaviour signature specification (behaviour_of b)) (sym c.in_ok-inside.ensures) h))
