use Rattle.std.proofs.Common.{◌≤◌, List, map}
use Rattle.behaviour_semantics.specs.Behaviour.{asked_variables}
use Rattle.behaviour_semantics.specs.Draft.{above_variables}
use Rattle.behaviour_tree.specs.BehaviourView.{offer_of}
use Rattle.behaviour_tree.specs.declared.behaviours.Offer.{Offer}
use Rattle.menu_builder.proofs.NumberLemmas.{Covers}
use Rattle.menu_builder.proofs.numbers.above_offers.Given as goal

abbrev pub invariant-loop-offer : goal.invariant-loop-offer
invariant-loop-offer l = (l.least ≤ l.above) × Covers (λ (xs : List (Offer)). above_variables (asked_variables (map offer_of
    xs))) l.offer-items l.offer-index l.above
