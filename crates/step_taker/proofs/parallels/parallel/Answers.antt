use Rattle.std.proofs.Common.{◌∙◌, ap, sym, subst}
use Rattle.std.proofs.lemmas.Result.{IfOk-weaker}
use Rattle.behaviour_semantics.specs.Behaviour.{parallel}
use Rattle.behaviour_tree.specs.Over.{AreTermsOf}
use Rattle.behaviour_tree.specs.StateView.{node_profiles, stands_for}
use Rattle.behaviour_tree.specs.declared.states.Node.{Node}
use Rattle.behaviour_tree.proofs.ClosedLemmas.{terms_both}
use Rattle.step_taker.proofs.SplitLemmas.{parts_as}
use Rattle.behaviour_semantics.specs.Behaviour.{SynchronisationSet}
use Rattle.step_taker.proofs.parallels.parallel.Goals as goal

pub returns-clause-same : goal.returns-clause-same
returns-clause-same c =
    IfOk-weaker c.shared.result _ _ (λ made e. ap stands_for e ∙ ap (λ (m : SynchronisationSet). parallel m (stands_for c.args.left.value)
    (stands_for c.args.right.value)) c.in_ok-meet.ensures) c.shared.ensures

pub returns-clause-terms : goal.returns-clause-terms
returns-clause-terms c =
    IfOk-weaker c.shared.result _ _ (λ made e signature h k. subst (λ (node : Node). AreTermsOf signature (node_profiles node)) (sym e)
    (terms_both signature _ _ h k)) c.shared.ensures

pub returns-clause-closed_parts : goal.returns-clause-closed_parts
returns-clause-closed_parts c =
    IfOk-weaker c.shared.result _ _ (λ made e h k. parts_as made.value _ e (h, k)) c.shared.ensures
