use Rattle.std.proofs.Common.{◌≡◌, ◌++◌, map, drop}
use Rattle.behaviour_semantics.specs.Behaviour.{numbers_of}
use Rattle.behaviour_tree.specs.BehaviourView.{variables_of}
use Rattle.behaviour_tree.specs.StateView.{environment_of, pair_profile}
use Rattle.step_parts.specs.TargetNodes.{unbound}
use Rattle.step_parts.proofs.targets.left_free.Given as goal

abbrev pub invariant-loop-pair : goal.invariant-loop-pair
invariant-loop-pair l = record {
  same : environment_of l.left.items
      ++ environment_of (unbound (numbers_of (variables_of l.variables.items)) (drop l.pair-index l.pair-items))
      ≡ environment_of (unbound (numbers_of (variables_of l.variables.items)) l.pair-items);
  terms : map pair_profile l.left.items
      ++ map pair_profile (unbound (numbers_of (variables_of l.variables.items)) (drop l.pair-index l.pair-items))
      ≡ map pair_profile (unbound (numbers_of (variables_of l.variables.items)) l.pair-items);
}
