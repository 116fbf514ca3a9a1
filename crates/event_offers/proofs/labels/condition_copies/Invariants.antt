use Rattle.std.proofs.Common.{◌≡◌, ◌++◌, drop}
use Rattle.event_offers.specs.OfferView.{condition_profiles, conditions_of}
use Rattle.event_offers.proofs.labels.condition_copies.Given as goal

abbrev pub invariant-loop-condition : goal.invariant-loop-condition
invariant-loop-condition l =
    (conditions_of l.made.items ++ conditions_of (drop l.condition-index l.condition-items) ≡ conditions_of l.condition-items)
    × (condition_profiles l.made.items ++ condition_profiles (drop l.condition-index l.condition-items) ≡ condition_profiles
    l.condition-items)
