use Rattle.term_match.specs.SubstView.{profiled_pairs}
use Rattle.draft_parts.specs.Offered.{asked_pairs}
use Rattle.draft_parts.proofs.TurnLemmas.{one_turn}
use Rattle.draft_parts.proofs.offers.asked.Goals as goal

pub loop-offer-preserved : goal.loop-offer-preserved
loop-offer-preserved c =
    one_turn asked_pairs c.deref-offer-items.result.now c.loop-offer.offer-index c.offer-item.result
    (profiled_pairs c.loop-offer.made.items) (profiled_pairs c.push_asked.new.pairs.items) _ c.loop-offer.number c.in_ok-number.number
    c.loop-offer-test.true c.offer-item.is c.in_ok-number.ensures c.loop-offer.invariant
