use Rattle.std.proofs.Common.{◌≡◌, drop, ◌+◌, ◌*◌}
use Rattle.sort_terms.specs.TermSize.{size_of, sizes_of}
use Rattle.sort_terms.specs.TermView.{all_profiled}
use Rattle.term_match.specs.Disagreement.{have_number}
use Rattle.term_match.proofs.occurrence.+occurrence.Given as goal

abbrev pub decreases-occurs : goal.decreases-occurs
decreases-occurs l = 2 * size_of l.term.now

abbrev pub decreases-occurs_among : goal.decreases-occurs_among
decreases-occurs_among l = 2 * sizes_of l.terms.now.items + 1

abbrev pub invariant-occurs_among-loop-term : goal.invariant-occurs_among-loop-term
invariant-occurs_among-loop-term l =
    have_number l.number (all_profiled l.term-items) ≡ have_number l.number (all_profiled (drop l.term-index l.term-items))
