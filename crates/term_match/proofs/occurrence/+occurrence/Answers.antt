use Rattle.std.proofs.Common.{subst, sym, arith, ap}
use Rattle.sort_terms.specs.TermSize.{sizes_of}
use Rattle.sort_terms.proofs.SizeLemmas.{size_above, size_within}
use Rattle.lotos_base.specs.Sorting.{IsGround}
use Rattle.sort_terms.specs.TermView.{profiled_of, term_of}
use Rattle.sort_terms.specs.declared.terms.Term.{Term}
use Rattle.term_match.proofs.OccurrenceLemmas.{ground_lacks_number}
use Rattle.term_match.proofs.occurrence.+occurrence.Goals as goal

-- an operation that is known to have no variable
pub occurs-returns-then-facts : goal.occurs-returns-then-facts
occurs-returns-then-facts t c =
    sym (ground_lacks_number c.args.number (profiled_of c.args.term.now)
    (subst (λ (u : Term). IsGround (term_of u)) (sym c.in-Node.is) (c.facts.ensures.0 c.if-facts.true)))

-- the arguments are smaller than the term, and the members than the list
pub occurs-occurs_among-requires : goal.occurs-occurs_among-requires
occurs-occurs_among-requires t c =
    let size = size_above c.args.term.now c.in-Node.op c.in-Node.profile c.in-Node.arguments c.items.result.now.items c.in-Node.is
    c.items.ensures in
    (omega (arith, c.decreases, size), tt)

pub occurs_among-occurs-requires : goal.occurs_among-occurs-requires
occurs_among-occurs-requires t c =
    let size = size_within c.deref-term-items.result.now c.loop-term.term-index c.term-item.result c.loop-term-test.true c.term-item.is in
    let same = ap sizes_of c.deref-term-items.ensures.value in
    (omega (arith, c.decreases, size, same), tt)
