use Rattle.std.proofs.Common.{◌≡◌, drop, ◌+◌, ◌*◌}
use Rattle.rewriting_theory.specs.Numbering.{all_variable_numbers}
use Rattle.sort_terms.specs.TermSize.{size_of, sizes_of}
use Rattle.sort_terms.specs.TermView.{bare_terms_of}
use Rattle.term_match.specs.Appearance.{noted}
use Rattle.term_match.proofs.noting.+noting.Given as goal

abbrev pub decreases-note : goal.decreases-note
decreases-note l = 2 * size_of l.term.now

abbrev pub decreases-note_all : goal.decreases-note_all
decreases-note_all l = 2 * sizes_of l.terms.now.items + 1

abbrev pub invariant-note_all-loop-term : goal.invariant-note_all-loop-term
invariant-note_all-loop-term l =
    noted l.fn.seen.items (all_variable_numbers (bare_terms_of l.term-items))
    ≡ noted l.seen.items (all_variable_numbers (bare_terms_of (drop l.term-index l.term-items)))
