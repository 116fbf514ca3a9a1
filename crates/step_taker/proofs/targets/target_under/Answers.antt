use Rattle.std.proofs.Common.{◌∙◌, ap, sym, subst}
use Rattle.std.proofs.lemmas.Result.{IfOk-weaker}
use Rattle.behaviour_tree.specs.DefinitionView.{specification_of}
use Rattle.behaviour_tree.specs.Over.{AreTermsOf}
use Rattle.behaviour_tree.specs.StateView.{node_profiles, stands_for}
use Rattle.behaviour_tree.specs.declared.states.Node.{Node}
use Rattle.step_taker.proofs.SplitLemmas.{parts_as}
use Rattle.step_taker.proofs.targets.target_under.Goals as goal

pub returns-clause-same : goal.returns-clause-same
returns-clause-same c =
    IfOk-weaker c.shared.result _ _ (λ made e. ap stands_for e ∙ c.in_ok-made.ensures.same) c.shared.ensures

pub returns-clause-terms : goal.returns-clause-terms
returns-clause-terms c =
    IfOk-weaker c.shared.result _ _ (λ made e signature h. subst (λ (node : Node). AreTermsOf signature (node_profiles node)) (sym e)
    (c.in_ok-made.ensures.terms signature h)) c.shared.ensures

pub returns-clause-closed_parts : goal.returns-clause-closed_parts
returns-clause-closed_parts c =
    IfOk-weaker c.shared.result _ _ (λ made e ground closed. parts_as made.value _ e (c.in_ok-made.ensures.closed_parts
    ground.data_.signature (specification_of ground.spec) closed)) c.shared.ensures
