use Rattle.std.proofs.Common.{arith, ap}
use Rattle.sort_terms.specs.TermSize.{sizes_of}
use Rattle.sort_terms.proofs.SizeLemmas.{size_above, size_within}
use Rattle.term_rewriter.proofs.taking.+taking.Goals as goal

-- the arguments are smaller than the term, and the members than the list
pub taken-all_taken-requires : goal.taken-all_taken-requires
taken-all_taken-requires t c =
    let size = size_above c.args.pattern.now c.in-Node.op c.in-Node.profile c.in-Node.patterns c.items.result.now.items c.in-Node.is
    c.items.ensures in
    (omega (arith, c.decreases, size), tt)

pub all_taken-taken-requires : goal.all_taken-taken-requires
all_taken-taken-requires t c =
    let size = size_within c.deref-pattern-items.result.now c.loop-pattern.pattern-index c.pattern-item.result c.loop-pattern-test.true
    c.pattern-item.is in
    let same = ap sizes_of c.deref-pattern-items.ensures.value in
    (omega (arith, c.decreases, size, same), tt)
