use Rattle.std.proofs.Common.{◌≡◌, ◌++◌, filter, drop}
use Rattle.step_parts.specs.TargetNodes.{is_lacking}
use Rattle.step_parts.proofs.targets.add_lacking.Given as goal

abbrev pub invariant-loop-pair : goal.invariant-loop-pair
invariant-loop-pair l =
    l.made.items ++ filter (is_lacking l.first.items) (drop l.pair-index l.pair-items)
    ≡ l.fn.made.items ++ filter (is_lacking l.first.items) l.pair-items
