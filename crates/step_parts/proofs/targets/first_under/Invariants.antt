use Rattle.std.proofs.Common.{◌≡◌, ◌++◌, map, drop}
use Rattle.step_parts.specs.TargetNodes.{pair_given}
use Rattle.step_parts.proofs.targets.first_under.Given as goal

abbrev pub invariant-loop-pair : goal.invariant-loop-pair
invariant-loop-pair l =
    l.made.items ++ map (pair_given l.second.items) (drop l.pair-index l.pair-items) ≡ map (pair_given l.second.items) l.pair-items
