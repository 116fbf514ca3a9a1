use Rattle.std.proofs.Common.{ap, ◌∙◌}
use Rattle.std.proofs.lemmas.Result.{IfOk-weaker}
use Rattle.behaviour_semantics.specs.Behaviour.{Relabelling}
use Rattle.behaviour_semantics.specs.Label.{under}
use Rattle.behaviour_tree.specs.BehaviourView.{behaviour_of}
use Rattle.step_parts.proofs.targets.copied.Goals as goal

pub returns-clause-same : goal.returns-clause-same
returns-clause-same c =
    IfOk-weaker c.beh_under.result _ _ (λ made e.
    e ∙ ap (λ (ps : Relabelling). under (behaviour_of c.args.body.now.value) ps) c.in_ok-pairs.ensures) c.beh_under.ensures.same
