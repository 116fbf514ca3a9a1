use Rattle.std.proofs.Common.{◌≡◌, ◌++◌, map, drop}
use Rattle.lotos_base.specs.Substitution.{binding}
use Rattle.behaviour_semantics.specs.Replacement.{exit_value_with}
use Rattle.term_match.specs.ProfiledInstance.{profiled_binding}
use Rattle.term_match.specs.SubstView.{profiled_pairs}
use Rattle.behaviour_tree.specs.BehaviourTerms.{exit_profiles}
use Rattle.behaviour_tree.specs.BehaviourView.{exit_value_of}
use Rattle.behaviour_tree.specs.StateView.{environment_of}
use Rattle.behaviour_instances.specs.InstanceTerms.{exit_placed}
use Rattle.behaviour_instances.proofs.terms.placed_results.Given as goal

abbrev pub invariant-loop-value : goal.invariant-loop-value
invariant-loop-value l =
    (map exit_value_of l.made.items
    ++ map (exit_value_with (binding (environment_of l.environment.items))) (map exit_value_of (drop l.value-index l.value-items))
    ≡ map (exit_value_with (binding (environment_of l.environment.items))) (map exit_value_of l.value-items))
    × (map exit_profiles l.made.items
    ++ map (exit_placed (profiled_binding (profiled_pairs l.environment.items))) (drop l.value-index l.value-items)
    ≡ map (exit_placed (profiled_binding (profiled_pairs l.environment.items))) l.value-items)
