use Rattle.std.proofs.Common.{◌≡◌, ◌++◌, drop, ◌+◌, ◌*◌}
use Rattle.sort_terms.specs.TermSize.{size_of, sizes_of}
use Rattle.sort_terms.specs.TermView.{all_profiled}
use Rattle.term_rewriter.specs.Wanted.{all_profiled_variables_of}
use Rattle.term_rewriter.proofs.wanting.+variables.Given as goal

abbrev pub decreases-variables : goal.decreases-variables
decreases-variables l = 2 * size_of l.term.now

abbrev pub decreases-all_variables : goal.decreases-all_variables
decreases-all_variables l = 2 * sizes_of l.terms.now.items + 1

abbrev pub invariant-all_variables-loop-term : goal.invariant-all_variables-loop-term
invariant-all_variables-loop-term l =
    l.fn.seen.items ++ all_profiled_variables_of (all_profiled l.term-items)
    ≡ l.seen.items ++ all_profiled_variables_of (all_profiled (drop l.term-index l.term-items))
