use Rattle.critical_pairs.proofs.ExtendLemmas.{extended_nothing}
use Rattle.critical_pairs.proofs.RuleLemmas.{place_more}
use Rattle.critical_pairs.proofs.listing.pairs_of_two.Goals as goal

pub loop-place-init : goal.loop-place-init
loop-place-init c = extended_nothing c.args.rules.now c.args.found.items

pub loop-place-preserved : goal.loop-place-preserved
loop-place-preserved c =
    place_more c.args.rules.now c.args.numbers.0 c.args.numbers.1 c.args.places.now c.loop-place.place-index c.place-item.result
    c.args.found.items c.loop-place.found.items c.in_ok-found.found.items c.loop-place-test.true c.place-item.is c.loop-place.invariant
    c.in_ok-found.ensures
