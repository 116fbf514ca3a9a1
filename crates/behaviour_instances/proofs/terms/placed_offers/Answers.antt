use Rattle.std.proofs.Common.{List, map, subst}
use Rattle.behaviour_tree.specs.BehaviourView.{offer_of}
use Rattle.behaviour_tree.specs.Closed.{OccursInOffers}
use Rattle.behaviour_tree.specs.declared.behaviours.Offer.{Offer}
use Rattle.behaviour_instances.proofs.OccurrenceLemmas.{in_offers}
use Rattle.behaviour_instances.proofs.terms.placed_offers.Goals as goal

pub placed_offer-requires : goal.placed_offer-requires
placed_offer-requires c n s o =
    c.requires n s (subst (λ (os : List Offer). OccursInOffers n s (map offer_of os)) c.deref-offer-items.ensures.value
    (in_offers n s c.deref-offer-items.result.now c.loop-offer.offer-index c.offer-item.result c.loop-offer-test.true c.offer-item.is o))
