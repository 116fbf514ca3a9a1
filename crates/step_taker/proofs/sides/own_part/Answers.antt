use Rattle.std.proofs.Common.{◌∙◌, ap, sym, subst}
use Rattle.std.proofs.lemmas.Result.{IfOk-weaker}
use Rattle.behaviour_semantics.specs.Behaviour.{Behaviour}
use Rattle.behaviour_semantics.specs.WellFormed.{IsClosedBehaviour}
use Rattle.behaviour_tree.specs.BehaviourTerms.{profiles_in}
use Rattle.behaviour_tree.specs.BehaviourView.{behaviour_of}
use Rattle.behaviour_tree.specs.Over.{AreTermsOf}
use Rattle.behaviour_tree.specs.StateView.{node_profiles, stands_for}
use Rattle.behaviour_tree.specs.declared.states.Node.{Node}
use Rattle.step_taker.proofs.SplitLemmas.{parts_as}
use Rattle.step_taker.proofs.sides.own_part.Goals as goal

pub returns-clause-same : goal.returns-clause-same
returns-clause-same c =
    IfOk-weaker c.shared.result _ _ (λ made e. ap stands_for e ∙ c.part.ensures.same ∙ ap behaviour_of c.in_ok-own.ensures) c.shared.ensures

pub returns-clause-terms : goal.returns-clause-terms
returns-clause-terms c =
    IfOk-weaker c.shared.result _ _ (λ made e signature h. subst (λ (node : Node). AreTermsOf signature (node_profiles node)) (sym e)
    (c.part.ensures.terms signature (subst (AreTermsOf signature) (sym (ap profiles_in c.in_ok-own.ensures)) h))) c.shared.ensures

pub returns-clause-closed_parts : goal.returns-clause-closed_parts
returns-clause-closed_parts c =
    IfOk-weaker c.shared.result _ _ (λ made e signature specification h. parts_as made.value _ e (c.part.ensures.closed_parts signature
    specification
    (subst (λ (b : Behaviour). IsClosedBehaviour signature specification b) (sym (ap behaviour_of c.in_ok-own.ensures)) h)))
    c.shared.ensures
