use Rattle.std.proofs.Common.{◌≡◌, ◌++◌, map, drop}
use Rattle.lotos_base.specs.Substitution.{binding}
use Rattle.behaviour_semantics.specs.Replacement.{offer_with}
use Rattle.term_match.specs.ProfiledInstance.{profiled_binding}
use Rattle.term_match.specs.SubstView.{profiled_pairs}
use Rattle.behaviour_tree.specs.BehaviourTerms.{offer_profiles}
use Rattle.behaviour_tree.specs.BehaviourView.{offer_of}
use Rattle.behaviour_tree.specs.StateView.{environment_of}
use Rattle.behaviour_instances.specs.InstanceTerms.{offer_terms_placed}
use Rattle.behaviour_instances.proofs.terms.placed_offers.Given as goal

abbrev pub invariant-loop-offer : goal.invariant-loop-offer
invariant-loop-offer l =
    (map offer_of l.made.items
    ++ map (offer_with (binding (environment_of l.environment.items))) (map offer_of (drop l.offer-index l.offer-items))
    ≡ map (offer_with (binding (environment_of l.environment.items))) (map offer_of l.offer-items))
    × (map offer_profiles l.made.items
    ++ map (offer_terms_placed (profiled_binding (profiled_pairs l.environment.items))) (drop l.offer-index l.offer-items)
    ≡ map (offer_terms_placed (profiled_binding (profiled_pairs l.environment.items))) l.offer-items)
