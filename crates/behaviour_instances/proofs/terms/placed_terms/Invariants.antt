use Rattle.std.proofs.Common.{◌≡◌, ◌++◌, map, drop}
use Rattle.lotos_base.specs.Substitution.{binding, substituted}
use Rattle.term_match.specs.ProfiledInstance.{profiled_binding}
use Rattle.term_match.specs.SubstView.{profiled_pairs}
use Rattle.behaviour_tree.specs.BehaviourTerms.{profiles_of}
use Rattle.behaviour_tree.specs.BehaviourView.{terms_of}
use Rattle.behaviour_tree.specs.StateView.{environment_of}
use Rattle.behaviour_instances.specs.InstanceTerms.{terms_placed}
use Rattle.behaviour_instances.proofs.terms.placed_terms.Given as goal

abbrev pub invariant-loop-term : goal.invariant-loop-term
invariant-loop-term l =
    (terms_of l.made.items ++ map (substituted (binding (environment_of l.environment.items))) (terms_of (drop l.term-index l.term-items))
    ≡ map (substituted (binding (environment_of l.environment.items))) (terms_of l.term-items))
    × (profiles_of l.made.items
    ++ terms_placed (profiled_binding (profiled_pairs l.environment.items)) (profiles_of (drop l.term-index l.term-items))
    ≡ terms_placed (profiled_binding (profiled_pairs l.environment.items)) (profiles_of l.term-items))
