use Rattle.std.proofs.Common.{◌≡◌, ◌++◌, map, drop}
use Rattle.behaviour_semantics.specs.Behaviour.{let_variables, numbers_of}
use Rattle.behaviour_tree.specs.BehaviourView.{let_of}
use Rattle.behaviour_instances.proofs.environments.below_let.Given as goal

abbrev pub invariant-loop-binding : goal.invariant-loop-binding
invariant-loop-binding l =
    l.numbers.items ++ numbers_of (let_variables (map let_of (drop l.binding-index l.binding-items)))
    ≡ numbers_of (let_variables (map let_of l.binding-items))
