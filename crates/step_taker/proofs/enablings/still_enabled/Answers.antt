use Rattle.std.proofs.Common.{◌∙◌, ap}
use Rattle.std.proofs.lemmas.Result.{IfOk-weaker}
use Rattle.behaviour_tree.specs.BehaviourTerms.{profiles_in}
use Rattle.behaviour_tree.specs.BehaviourView.{behaviour_of}
use Rattle.behaviour_tree.specs.StateView.{node_profiles, stands_for}
use Rattle.step_taker.proofs.SplitLemmas.{parts_as, terms_as, enable_as}
use Rattle.behaviour_tree.proofs.ClosedLemmas.{closed_under_alike}
use Rattle.step_taker.proofs.enablings.still_enabled.Goals as goal

pub returns-clause-same : goal.returns-clause-same
returns-clause-same c =
    IfOk-weaker c.shared.result _ _ (λ made e. ap stands_for e
    ∙ enable_as (stands_for c.args.left.value) _ _ _ _ _ _ c.in_ok-variables.ensures c.in_ok-environment.ensures.same
    (ap behaviour_of c.in_ok-right.ensures)) c.shared.ensures

pub returns-clause-terms : goal.returns-clause-terms
returns-clause-terms c =
    IfOk-weaker c.shared.result _ _ (λ made e. ap node_profiles e
    ∙ terms_as (node_profiles c.args.left.value) _ _ _ _ (ap profiles_in c.in_ok-right.ensures) c.in_ok-environment.ensures.terms)
    c.shared.ensures

pub returns-clause-closed_parts : goal.returns-clause-closed_parts
returns-clause-closed_parts c =
    IfOk-weaker c.shared.result _ _ (λ made e side h. parts_as made.value _ e (
      h,
      closed_under_alike _ _ _ _ _ _
          c.in_ok-environment.ensures.same c.in_ok-environment.ensures.terms c.in_ok-variables.ensures
          (ap behaviour_of c.in_ok-right.ensures) side,
    )) c.shared.ensures
