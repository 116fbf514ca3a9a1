use Rattle.std.proofs.Common.{◌∙◌, ap, sym, subst}
use Rattle.std.proofs.lemmas.Result.{IfOk-weaker}
use Rattle.behaviour_semantics.specs.Behaviour.{Behaviour}
use Rattle.behaviour_semantics.specs.WellFormed.{IsClosedBehaviour}
use Rattle.behaviour_tree.specs.Over.{AreTermsOf}
use Rattle.behaviour_tree.specs.StateView.{node_profiles, stands_for}
use Rattle.step_taker.proofs.SplitLemmas.{parts_as, states_have_parts}
use Rattle.step_taker.specs.Sides.{IsSideState, side_of, side_profiles}
use Rattle.step_taker.specs.declared.sides.Side.{Side}
use Rattle.step_taker.proofs.sides.Side.node.Goals as goal

pub returns-in-Closed-clause-same : goal.returns-in-Closed-clause-same
returns-in-Closed-clause-same c =
    IfOk-weaker c.own_part.result _ _ (λ made e. e ∙ sym (ap side_of c.in-Closed.is)) c.own_part.ensures.same

pub returns-in-Closed-clause-terms : goal.returns-in-Closed-clause-terms
returns-in-Closed-clause-terms c =
    IfOk-weaker c.own_part.result _ _ (λ made e signature h. e signature (subst (AreTermsOf signature) (ap side_profiles c.in-Closed.is)
    h)) c.own_part.ensures.terms

pub returns-in-Closed-clause-closed_parts : goal.returns-in-Closed-clause-closed_parts
returns-in-Closed-clause-closed_parts c =
    IfOk-weaker c.own_part.result _ _ (λ made e signature specification h state. e signature specification
    (subst (λ (b : Behaviour). IsClosedBehaviour signature specification b) (ap side_of c.in-Closed.is) h))
    c.own_part.ensures.closed_parts

pub returns-in-Standing-clause-same : goal.returns-in-Standing-clause-same
returns-in-Standing-clause-same c =
    IfOk-weaker c.owner.result _ _ (λ made e. ap stands_for e ∙ sym (ap side_of c.in-Standing.is)) c.owner.ensures

pub returns-in-Standing-clause-terms : goal.returns-in-Standing-clause-terms
returns-in-Standing-clause-terms c =
    IfOk-weaker c.owner.result _ _ (λ made e signature h. subst (AreTermsOf signature) (sym (ap node_profiles e))
    (subst (AreTermsOf signature) (ap side_profiles c.in-Standing.is) h)) c.owner.ensures

pub returns-in-Standing-clause-closed_parts : goal.returns-in-Standing-clause-closed_parts
returns-in-Standing-clause-closed_parts c =
    IfOk-weaker c.owner.result _ _ (λ made e signature specification h state.
    parts_as made.value _ e (states_have_parts c.in-Standing.node.now.value
    (subst (λ (side : Side). IsSideState side) c.in-Standing.is state))) c.owner.ensures
