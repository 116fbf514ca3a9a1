use Rattle.std.proofs.Common.{◌≡◌, ◌+◌, ◌*◌, drop}
use Rattle.lotos_base.specs.Tests.{occurs_among}
use Rattle.sort_terms.specs.TermSize.{size_of, sizes_of}
use Rattle.sort_terms.specs.TermView.{bare_terms_of}
use Rattle.sort_terms.proofs.occurrences.+occurrence.Given as goal

abbrev pub decreases-has_variable : goal.decreases-has_variable
decreases-has_variable l = 2 * size_of l.term.now

abbrev pub decreases-have_variable : goal.decreases-have_variable
decreases-have_variable l = 2 * sizes_of l.terms.now.items + 1

abbrev pub invariant-have_variable-loop-term : goal.invariant-have_variable-loop-term
invariant-have_variable-loop-term l =
    occurs_among l.number l.sort (bare_terms_of (drop l.term-index l.term-items))
    ≡ occurs_among l.number l.sort (bare_terms_of l.term-items)
