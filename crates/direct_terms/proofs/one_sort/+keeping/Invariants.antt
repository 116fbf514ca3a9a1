use Rattle.std.proofs.Common.{◌≡◌, ◌+◌, ◌*◌, drop}
use Rattle.sort_terms.specs.TermSize.{size_of, sizes_of}
use Rattle.sort_terms.specs.TermView.{all_profiled}
use Rattle.direct_terms.specs.OneSort.{all_keep_sort}
use Rattle.direct_terms.proofs.one_sort.+keeping.Given as goal

abbrev pub decreases-keeps : goal.decreases-keeps
decreases-keeps l = 2 * size_of l.term.now

abbrev pub decreases-all_keep : goal.decreases-all_keep
decreases-all_keep l = 2 * sizes_of l.terms.now.items + 1

abbrev pub invariant-all_keep-loop-term : goal.invariant-all_keep-loop-term
invariant-all_keep-loop-term l =
    all_keep_sort l.number l.sort (all_profiled l.term-items)
    ≡ all_keep_sort l.number l.sort (all_profiled (drop l.term-index l.term-items))
