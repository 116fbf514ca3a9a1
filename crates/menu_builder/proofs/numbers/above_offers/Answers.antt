use Rattle.std.proofs.Common.{List, map, arith}
use Rattle.behaviour_semantics.specs.Behaviour.{asked_variables}
use Rattle.behaviour_semantics.specs.Draft.{above_variables}
use Rattle.behaviour_tree.specs.BehaviourView.{offer_of}
use Rattle.behaviour_tree.specs.declared.behaviours.Offer.{Offer}
use Rattle.menu_builder.proofs.NumberLemmas.{covers_turn, step_offer}
use Rattle.menu_builder.proofs.numbers.above_offers.Goals as goal

pub loop-offer-preserved : goal.loop-offer-preserved
loop-offer-preserved c = (
  omega (arith, c.loop-offer.invariant.0, c.in_ok-above.ensures.least),
  covers_turn (λ (xs : List (Offer)). above_variables (asked_variables (map offer_of xs))) c.deref-offer-items.result.now
      c.loop-offer.offer-index c.offer-item.result
      c.loop-offer.above c.in_ok-above.above c.loop-offer-test.true c.offer-item.is
      (λ n rest more less. step_offer c.offer-item.result rest c.loop-offer.above c.in_ok-above.above n
      c.in_ok-above.ensures.least c.in_ok-above.ensures.above more less) c.loop-offer.invariant.1,
)
