use Rattle.std.proofs.Common.{ap, arith}
use Rattle.type_equations.proofs.NumberingLemmas.{numbered_more}
use Rattle.sort_terms.specs.TermSize.{sizes_of}
use Rattle.sort_terms.proofs.SizeLemmas.{size_above, size_within}
use Rattle.type_equations.proofs.numbering.+numbering.Goals as goal

pub renumbered_terms-loop-term-preserved : goal.renumbered_terms-loop-term-preserved
renumbered_terms-loop-term-preserved t c =
    numbered_more c.args.order.now.keys c.deref-term-items.result.now c.loop-term.made.items c.push.new.self.items
    c.loop-term.term-index c.term-item.result c.in_ok-renumbered_term.field-0 c.loop-term-test.true c.term-item.is
    c.in_ok-push.ensures.items c.loop-term.invariant c.in_ok-renumbered_term.ensures

-- the arguments are smaller than the term, and the members than the list
pub renumbered_term-renumbered_terms-requires : goal.renumbered_term-renumbered_terms-requires
renumbered_term-renumbered_terms-requires t c =
    let size = size_above c.args.term.now c.in-Node.op c.in-Node.profile c.in-Node.arguments c.items.result.now.items c.in-Node.is
    c.items.ensures in
    (omega (arith, c.decreases, size), tt)

pub renumbered_terms-renumbered_term-requires : goal.renumbered_terms-renumbered_term-requires
renumbered_terms-renumbered_term-requires t c =
    let size = size_within c.deref-term-items.result.now c.loop-term.term-index c.term-item.result c.loop-term-test.true c.term-item.is in
    let same = ap sizes_of c.deref-term-items.ensures.value in
    (omega (arith, c.decreases, size, same), tt)
