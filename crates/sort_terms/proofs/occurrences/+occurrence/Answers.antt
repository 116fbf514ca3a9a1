use Rattle.std.proofs.Common.{ap, arith, subst, sym}
use Rattle.lotos_base.specs.Sorting.{IsGround}
use Rattle.sort_terms.specs.TermSize.{sizes_of}
use Rattle.sort_terms.specs.TermView.{term_of}
use Rattle.sort_terms.specs.declared.terms.Term.{Term}
use Rattle.sort_terms.proofs.FactLemmas.{ground_lacks}
use Rattle.sort_terms.proofs.SizeLemmas.{size_above, size_within}
use Rattle.sort_terms.proofs.occurrences.+occurrence.Goals as goal

-- an operation that is known to have no variable
pub has_variable-returns-then-facts : goal.has_variable-returns-then-facts
has_variable-returns-then-facts t c =
    sym (ground_lacks c.args.number c.args.sort (term_of c.args.term.now)
    (subst (λ (u : Term). IsGround (term_of u)) (sym c.in-Node.is) (c.facts.ensures.0 c.if-facts.true)))

pub has_variable-have_variable-requires : goal.has_variable-have_variable-requires
has_variable-have_variable-requires t c =
    let size = size_above c.args.term.now c.in-Node.op c.in-Node.profile c.in-Node.arguments c.items.result.now.items c.in-Node.is
    c.items.ensures in
    (omega (arith, c.decreases, size), tt)

pub have_variable-has_variable-requires : goal.have_variable-has_variable-requires
have_variable-has_variable-requires t c =
    let size = size_within c.deref-term-items.result.now c.loop-term.term-index c.term-item.result c.loop-term-test.true c.term-item.is in
    let same = ap sizes_of c.deref-term-items.ensures.value in
    (omega (arith, c.decreases, size, same), tt)
