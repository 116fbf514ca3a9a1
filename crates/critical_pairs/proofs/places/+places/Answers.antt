use Rattle.std.proofs.Common.{arith, ◌<◌, length}
use Rattle.sort_terms.proofs.SizeLemmas.{size_above, size_within}
use Rattle.critical_pairs.proofs.places.+places.Goals as goal

pub places_below-places_among-requires : goal.places_below-places_among-requires
places_below-places_among-requires t c =
    let size = size_above c.args.term.now c.in-Node.op c.in-Node.profile c.in-Node.arguments c.items-in-Node.result.now.items c.in-Node.is
    c.items-in-Node.ensures in
    (omega (arith, c.decreases, size), tt)

pub places_among-places_below-requires : goal.places_among-places_below-requires
places_among-places_below-requires t c =
    let here : c.loop-i.i < length c.args.terms.now.items =
    omega (arith, c.loop-i-test.true, c.len-i-end.ensures, c.args.terms.now.ok.0) in
    let size = size_within c.args.terms.now.items c.loop-i.i c.index.result.now here c.index.ensures in
    (omega (arith, c.decreases, size), tt)
