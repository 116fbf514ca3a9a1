use Rattle.std.proofs.Common.{◌≡◌, drop}
use Rattle.behaviour_semantics.specs.Derives.{leaves_in}
use Rattle.behaviour_semantics.specs.WellFormed.{Every}
use Rattle.behaviour_tree.specs.BehaviourView.{terms_of}
use Rattle.event_offers.specs.Instances.{IsValuedPair, unmet_among}
use Rattle.event_offers.specs.Keeping.{KeepsData}
use Rattle.event_offers.specs.OfferView.{condition_profiles, conditions_of}
use Rattle.event_offers.proofs.entries.first_unmet.Given as goal

abbrev pub invariant-loop-condition : goal.invariant-loop-condition
invariant-loop-condition g l =
    (unmet_among (g.D.Deciding.canon l.fn.decider) (leaves_in (terms_of l.values)) (conditions_of (drop l.condition-index
    l.condition-items))
    ≡ unmet_among (g.D.Deciding.canon l.fn.decider) (leaves_in (terms_of l.values)) (conditions_of l.condition-items))
    × Every (IsValuedPair (g.D.Deciding.known_data l.fn.decider).signature l.values) (condition_profiles (drop l.condition-index
    l.condition-items))
    × KeepsData g.D.Deciding.known_data g.D.Deciding.canon l.fn.decider l.decider
