use Rattle.std.proofs.Common.{◌≡◌, ◌++◌, drop, map}
use Rattle.behaviour_semantics.specs.Replacement.{test_with}
use Rattle.event_offers.specs.OfferView.{condition_profiles, conditions_of}
use Rattle.event_offers.specs.Renaming.{pair_instance, profiled_renaming_of, renaming_of}
use Rattle.event_offers.proofs.renaming.Renaming.conditions.Given as goal

abbrev pub invariant-loop-condition : goal.invariant-loop-condition
invariant-loop-condition l =
    (conditions_of l.made.items ++ map (test_with (renaming_of l.self)) (conditions_of (drop l.condition-index l.condition-items))
    ≡ map (test_with (renaming_of l.self)) (conditions_of l.condition-items))
    × (condition_profiles l.made.items ++ map (pair_instance (profiled_renaming_of l.self)) (condition_profiles (drop l.condition-index
    l.condition-items))
    ≡ map (pair_instance (profiled_renaming_of l.self)) (condition_profiles l.condition-items))
