use Rattle.std.proofs.Common.{◌≡◌, ◌++◌, map, drop}
use Rattle.behaviour_semantics.specs.Behaviour.{open_sorts}
use Rattle.behaviour_tree.specs.BehaviourView.{exit_value_of}
use Rattle.step_parts.proofs.leaves.open_sorts.Given as goal

abbrev pub invariant-loop-value : goal.invariant-loop-value
invariant-loop-value l =
    l.sorts.items ++ open_sorts (map exit_value_of (drop l.value-index l.value-items)) ≡ open_sorts (map exit_value_of l.value-items)
