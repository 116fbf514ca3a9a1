use Rattle.std.proofs.Common.{arith, ap}
use Rattle.sort_terms.specs.TermSize.{sizes_of}
use Rattle.sort_terms.proofs.SizeLemmas.{size_above, size_within}
use Rattle.term_match.specs.Appearance.{noted}
use Rattle.rewriting_theory.specs.Numbering.{all_variable_numbers}
use Rattle.sort_terms.specs.TermView.{bare_terms_of}
use Rattle.term_match.proofs.NumberLemmas.{note_more}
use Rattle.term_match.proofs.noting.+noting.Goals as goal

pub note_all-loop-term-preserved : goal.note_all-loop-term-preserved
note_all-loop-term-preserved t c =
    note_more c.deref-term-items.result.now c.loop-term.term-index c.term-item.result
    (noted c.args.seen.items (all_variable_numbers (bare_terms_of c.deref-term-items.result.now))) c.loop-term.seen.items
    c.in_ok-seen.seen.items
    c.loop-term-test.true c.term-item.is c.loop-term.invariant c.in_ok-seen.ensures

-- the arguments are smaller than the term, and the members than the list
pub note-note_all-requires : goal.note-note_all-requires
note-note_all-requires t c =
    let size = size_above c.args.term.now c.in-Node.op c.in-Node.profile c.in-Node.arguments c.items.result.now.items c.in-Node.is
    c.items.ensures in
    (omega (arith, c.decreases, size), tt)

pub note_all-note-requires : goal.note_all-note-requires
note_all-note-requires t c =
    let size = size_within c.deref-term-items.result.now c.loop-term.term-index c.term-item.result c.loop-term-test.true c.term-item.is in
    let same = ap sizes_of c.deref-term-items.ensures.value in
    (omega (arith, c.decreases, size, same), tt)
