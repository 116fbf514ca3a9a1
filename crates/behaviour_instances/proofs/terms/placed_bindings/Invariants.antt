use Rattle.std.proofs.Common.{◌≡◌, ◌++◌, map, drop}
use Rattle.lotos_base.specs.Substitution.{binding}
use Rattle.term_match.specs.ProfiledInstance.{profiled_binding}
use Rattle.term_match.specs.SubstView.{profiled_pairs}
use Rattle.behaviour_tree.specs.BehaviourTerms.{let_profile}
use Rattle.behaviour_tree.specs.BehaviourView.{let_of}
use Rattle.behaviour_tree.specs.StateView.{environment_of}
use Rattle.behaviour_instances.specs.InstanceTerms.{let_pair_placed, let_placed}
use Rattle.behaviour_instances.proofs.terms.placed_bindings.Given as goal

abbrev pub invariant-loop-binding : goal.invariant-loop-binding
invariant-loop-binding l =
    (map let_of l.made.items
    ++ map (let_pair_placed (binding (environment_of l.environment.items))) (map let_of (drop l.binding-index l.binding-items))
    ≡ map (let_pair_placed (binding (environment_of l.environment.items))) (map let_of l.binding-items))
    × (map let_profile l.made.items
    ++ map (let_placed (profiled_binding (profiled_pairs l.environment.items))) (drop l.binding-index l.binding-items)
    ≡ map (let_placed (profiled_binding (profiled_pairs l.environment.items))) l.binding-items)
