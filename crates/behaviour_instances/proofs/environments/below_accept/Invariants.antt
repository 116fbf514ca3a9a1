use Rattle.std.proofs.Common.{◌≡◌, ◌++◌, drop}
use Rattle.behaviour_semantics.specs.Behaviour.{numbers_of}
use Rattle.behaviour_tree.specs.BehaviourView.{variables_of}
use Rattle.behaviour_instances.proofs.environments.below_accept.Given as goal

abbrev pub invariant-loop-variable : goal.invariant-loop-variable
invariant-loop-variable l =
    l.numbers.items ++ numbers_of (variables_of (drop l.variable-index l.variable-items)) ≡ numbers_of (variables_of l.variable-items)
