use Rattle.std.proofs.Common.{map, arith, ap}
use Rattle.sort_terms.specs.TermSize.{sizes_of}
use Rattle.sort_terms.proofs.SizeLemmas.{size_above, size_within}
use Rattle.std.specs.Vec.Iter.{into_iter_items}
use Rattle.lotos_base.proofs.Pieces.{next_member}
use Rattle.sort_terms.specs.TermView.{profiled_of}
use Rattle.term_rewriter.proofs.FilledLemmas.{one_filled}
use Rattle.term_rewriter.proofs.filling.+filling.Goals as goal

pub all_filled-loop-term-preserved : goal.all_filled-loop-term-preserved
all_filled-loop-term-preserved t c =
    one_filled c.deref-term-items.result.now c.loop-term.made.items c.push.new.self.items c.loop-term.term-index c.term-item.result
    c.in_ok-filled.field-0 (map profiled_of (into_iter_items c.args.values.now)) (map profiled_of (into_iter_items c.loop-term.values))
    (map profiled_of (into_iter_items c.filled.new.values)) c.loop-term-test.true c.term-item.is
    (next_member c.deref-term-items.result.now c.loop-term.term-index c.term-item.result c.loop-term-test.true c.term-item.is)
    c.in_ok-push.ensures.items c.loop-term.invariant c.in_ok-filled.ensures

-- the arguments are smaller than the term, and the members than the list
pub filled-all_filled-requires : goal.filled-all_filled-requires
filled-all_filled-requires t c =
    let size = size_above c.args.term.now c.in-Node.op c.in-Node.profile c.in-Node.arguments c.items.result.now.items c.in-Node.is
    c.items.ensures in
    (omega (arith, c.decreases, size), tt)

pub all_filled-filled-requires : goal.all_filled-filled-requires
all_filled-filled-requires t c =
    let size = size_within c.deref-term-items.result.now c.loop-term.term-index c.term-item.result c.loop-term-test.true c.term-item.is in
    let same = ap sizes_of c.deref-term-items.ensures.value in
    (omega (arith, c.decreases, size, same), tt)
