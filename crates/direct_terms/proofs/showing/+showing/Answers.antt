use Rattle.std.proofs.Common.{ap, arith}
use Rattle.sort_terms.specs.TermSize.{sizes_of}
use Rattle.sort_terms.proofs.SizeLemmas.{size_above, size_within}
use Rattle.direct_terms.proofs.showing.+showing.Goals as goal

-- the arguments are smaller than the term, and the members than the list
pub show-show_all-requires : goal.show-show_all-requires
show-show_all-requires t c =
    let size = size_above c.args.term.now c.in-Node.op c.in-Node.profile c.in-Node.arguments c.items.result.now.items c.in-Node.is
    c.items.ensures in
    (omega (arith, c.decreases, size), tt)

pub show_all-show-requires : goal.show_all-show-requires
show_all-show-requires t c =
    let size = size_within c.deref-term-items.result.now c.loop-term.term-index c.term-item.result c.loop-term-test.true c.term-item.is in
    let same = ap sizes_of c.deref-term-items.ensures.value in
    (omega (arith, c.decreases, size, same), tt)
