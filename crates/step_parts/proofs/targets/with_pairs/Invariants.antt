use Rattle.std.proofs.Common.{◌≡◌, ◌++◌, map, drop, reverse}
use Rattle.std.specs.Prelude.{zip}
use Rattle.behaviour_tree.specs.StateView.{number_of}
use Rattle.step_parts.proofs.targets.with_pairs.Given as goal

abbrev pub invariant-loop-variable : goal.invariant-loop-variable
invariant-loop-variable l =
    l.pairs.items ++ zip (map number_of (drop l.variable-index l.variable-items)) (reverse l.rest.items)
    ≡ l.fn.left.items ++ zip (map number_of l.variable-items) l.fn.values.items
