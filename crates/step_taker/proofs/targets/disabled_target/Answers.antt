use Rattle.std.proofs.Common.{◌∙◌, ap}
use Rattle.std.proofs.lemmas.Result.{IfOk-weaker}
use Rattle.behaviour_semantics.specs.Rule.{still_disabled}
use Rattle.behaviour_tree.specs.DefinitionView.{specification_of}
use Rattle.behaviour_tree.specs.MoveView.{label_of}
use Rattle.behaviour_tree.specs.StateView.{stands_for}
use Rattle.step_taker.proofs.targets.disabled_target.Goals as goal

pub returns-clause-same : goal.returns-clause-same
returns-clause-same c =
    IfOk-weaker c.still_disabled.result _ _ (λ made e. e
    ∙ ap (still_disabled (label_of c.args.label.now) (stands_for c.args.target.value)) c.in_ok-right.ensures.same)
    c.still_disabled.ensures.same

pub returns-clause-terms : goal.returns-clause-terms
returns-clause-terms c =
    IfOk-weaker c.still_disabled.result _ _ (λ made f signature h k. f signature h (c.in_ok-right.ensures.terms signature k))
    c.still_disabled.ensures.terms

pub returns-clause-closed_parts : goal.returns-clause-closed_parts
returns-clause-closed_parts c =
    IfOk-weaker c.still_disabled.result _ _ (λ made f ground side h. f h
    (c.in_ok-right.ensures.closed_parts ground.data_.signature (specification_of ground.spec) side.passable.closed side.states))
    c.still_disabled.ensures.closed_parts
