use Rattle.std.proofs.Common.{◌++◌, ap, ◌∙◌}
use Rattle.std.specs.Prelude.{filter}
use Rattle.behaviour_semantics.specs.Behaviour.{Relabelling}
use Rattle.step_parts.specs.TargetNodes.{is_lacking}
use Rattle.step_parts.proofs.targets.in_turn.Goals as goal

pub returns : goal.returns
returns c =
    c.in_ok-add_lacking.ensures
    ∙ ap (λ (xs : Relabelling). xs ++ filter (is_lacking c.args.first.now.items) c.args.second.now.items) c.in_ok-made.ensures
