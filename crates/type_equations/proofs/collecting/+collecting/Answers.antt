use Rattle.std.proofs.Common.{ap, arith}
use Rattle.type_equations.proofs.CollectLemmas.{collected_more}
use Rattle.sort_terms.specs.TermSize.{sizes_of}
use Rattle.sort_terms.proofs.SizeLemmas.{size_above, size_within}
use Rattle.type_equations.proofs.collecting.+collecting.Goals as goal

pub collect_all-loop-term-preserved : goal.collect_all-loop-term-preserved
collect_all-loop-term-preserved t c =
    collected_more c.deref-term-items.result.now c.loop-term.term-index c.term-item.result c.loop-term.order.keys
    c.collect.new.order.keys _ c.loop-term-test.true c.term-item.is c.loop-term.invariant c.in_ok-collect.ensures

-- the arguments are smaller than the term, and the members than the list
pub collect-collect_all-requires : goal.collect-collect_all-requires
collect-collect_all-requires t c =
    let size = size_above c.args.term.now c.in-Node.op c.in-Node.profile c.in-Node.arguments c.items.result.now.items c.in-Node.is
    c.items.ensures in
    (omega (arith, c.decreases, size), tt)

pub collect_all-collect-requires : goal.collect_all-collect-requires
collect_all-collect-requires t c =
    let size = size_within c.deref-term-items.result.now c.loop-term.term-index c.term-item.result c.loop-term-test.true c.term-item.is in
    let same = ap sizes_of c.deref-term-items.ensures.value in
    (omega (arith, c.decreases, size, same), tt)
