use Rattle.std.proofs.Common.{subst, sym, arith, ap}
use Rattle.lotos_base.specs.Sorting.{IsGround}
use Rattle.sort_terms.proofs.SizeLemmas.{size_above, size_within}
use Rattle.sort_terms.specs.TermSize.{sizes_of}
use Rattle.sort_terms.specs.TermView.{term_of}
use Rattle.sort_terms.specs.declared.terms.Term.{Term}
use Rattle.draft_solving.proofs.PlaceLemmas.{ground_lacks}
use Rattle.draft_solving.proofs.places.Places.+noting.Goals as goal

-- an operation that is known to have no variable
pub note-returns-then-facts-clause-noted : goal.note-returns-then-facts-clause-noted
note-returns-then-facts-clause-noted t c = λ n s o lt.
    absurd (ground_lacks n s (term_of c.args.term.now)
    (subst (λ (u : Term). IsGround (term_of u)) (sym c.in-Node.is) (c.facts.ensures.0 c.if-facts.true)) o)

-- the arguments are smaller than the term, and the members than the list
pub note-note_all-requires : goal.note-note_all-requires
note-note_all-requires t c =
    let size = size_above c.args.term.now c.in-Node.op c.in-Node.profile c.in-Node.arguments c.items.result.now.items c.in-Node.is
    c.items.ensures in
    (omega (arith, c.decreases, size), tt)

pub note_all-note-requires : goal.note_all-note-requires
note_all-note-requires t c =
    let size = size_within c.deref-term-items.result.now c.loop-term.term-index c.term-item.result c.loop-term-test.true c.term-item.is in
    let same = ap sizes_of c.deref-term-items.ensures.value in
    (omega (arith, c.decreases, size, same), tt)
