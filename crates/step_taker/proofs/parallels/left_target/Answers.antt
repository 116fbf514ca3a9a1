use Rattle.std.proofs.Common.{◌∙◌, ap}
use Rattle.std.proofs.lemmas.Result.{IfOk-weaker}
use Rattle.behaviour_semantics.specs.Behaviour.{parallel}
use Rattle.behaviour_tree.specs.BehaviourView.{meet_of}
use Rattle.behaviour_tree.specs.DefinitionView.{specification_of}
use Rattle.behaviour_tree.specs.StateView.{stands_for}
use Rattle.step_taker.proofs.parallels.left_target.Goals as goal

pub returns-clause-same : goal.returns-clause-same
returns-clause-same c =
    IfOk-weaker c.parallel.result _ _ (λ made e. e ∙ ap (parallel (meet_of c.args.meet.now) (stands_for c.args.left.value))
    c.in_ok-right.ensures.same) c.parallel.ensures.same

pub returns-clause-terms : goal.returns-clause-terms
returns-clause-terms c =
    IfOk-weaker c.parallel.result _ _ (λ made e signature h k. e signature h (c.in_ok-right.ensures.terms signature k))
    c.parallel.ensures.terms

pub returns-clause-closed_parts : goal.returns-clause-closed_parts
returns-clause-closed_parts c =
    IfOk-weaker c.parallel.result _ _ (λ made e ground side h. e h (c.in_ok-right.ensures.closed_parts ground.data_.signature
    (specification_of ground.spec) side.passable.closed side.states)) c.parallel.ensures.closed_parts
