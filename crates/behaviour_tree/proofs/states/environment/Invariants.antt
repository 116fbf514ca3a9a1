use Rattle.std.proofs.Common.{◌≡◌, ◌++◌, map, drop, reverse}
use Rattle.std.specs.Prelude.{zip}
use Rattle.behaviour_tree.specs.StateView.{number_of}
use Rattle.behaviour_tree.proofs.states.environment.Given as goal

abbrev pub invariant-loop-variable : goal.invariant-loop-variable
invariant-loop-variable l =
    l.made.items ++ zip (map number_of (drop l.variable-index l.variable-items)) (reverse l.rest.items)
    ≡ zip (map number_of l.variable-items) l.fn.values.items
