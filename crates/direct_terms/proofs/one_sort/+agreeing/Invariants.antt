use Rattle.std.proofs.Common.{◌≡◌, ◌+◌, ◌*◌, drop}
use Rattle.sort_terms.specs.TermSize.{size_of, sizes_of}
use Rattle.sort_terms.specs.TermView.{all_profiled, profiled_of}
use Rattle.direct_terms.specs.OneSort.{all_agree}
use Rattle.direct_terms.proofs.one_sort.+agreeing.Given as goal

abbrev pub decreases-agree : goal.decreases-agree
decreases-agree l = 2 * size_of l.term.now

abbrev pub decreases-agree_among : goal.decreases-agree_among
decreases-agree_among l = 2 * sizes_of l.terms.now.items + 1

abbrev pub invariant-agree_among-loop-term : goal.invariant-agree_among-loop-term
invariant-agree_among-loop-term l =
    all_agree (profiled_of l.left) (profiled_of l.right) (all_profiled l.term-items)
    ≡ all_agree (profiled_of l.left) (profiled_of l.right) (all_profiled (drop l.term-index l.term-items))
