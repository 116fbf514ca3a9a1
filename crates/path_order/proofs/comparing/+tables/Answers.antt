use Rattle.std.proofs.Common.{ap, arith}
use Rattle.sort_terms.specs.TermSize.{sizes_of}
use Rattle.sort_terms.proofs.SizeLemmas.{size_above, size_within}
use Rattle.path_order.proofs.comparing.+tables.Goals as goal

-- the arguments are smaller than the term, and the members than the list
pub compare-compare_each-requires : goal.compare-compare_each-requires
compare-compare_each-requires t c =
    let size = size_above c.args.term.now c.in-Node.op c.in-Node.profile c.in-Node.arguments c.items.result.now.items c.in-Node.is
    c.items.ensures in
    (omega (arith, c.decreases, size), tt)

pub compare_each-compare-requires : goal.compare_each-compare-requires
compare_each-compare-requires t c =
    let size = size_within c.deref-term-items.result.now c.loop-term.term-index c.term-item.result c.loop-term-test.true c.term-item.is in
    let same = ap sizes_of c.deref-term-items.ensures.value in
    (omega (arith, c.decreases, size, same), tt)
