use Rattle.std.proofs.Common.{◌∙◌, ℕ, List, ap}
use Rattle.std.proofs.lemmas.Result.{IfOk-weaker}
use Rattle.behaviour_semantics.specs.Behaviour.{hide}
use Rattle.behaviour_tree.specs.StateView.{node_profiles, stands_for}
use Rattle.step_taker.proofs.SplitLemmas.{parts_as}
use Rattle.step_taker.proofs.targets.hide.Goals as goal

pub returns-clause-same : goal.returns-clause-same
returns-clause-same c =
    IfOk-weaker c.shared.result _ _ (λ made e. ap stands_for e ∙ ap (λ (gates : List ℕ). hide gates (stands_for c.args.inner.value))
    (c.in_ok-hidden.ensures.items ∙ c.deref.ensures.value)) c.shared.ensures

pub returns-clause-terms : goal.returns-clause-terms
returns-clause-terms c =
    IfOk-weaker c.shared.result _ _ (λ made e. ap node_profiles e) c.shared.ensures

pub returns-clause-closed_parts : goal.returns-clause-closed_parts
returns-clause-closed_parts c =
    IfOk-weaker c.shared.result _ _ (λ made e h. parts_as made.value _ e h) c.shared.ensures
