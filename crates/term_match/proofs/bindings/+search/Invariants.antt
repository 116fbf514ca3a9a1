use Rattle.std.proofs.Common.{◌≡◌, drop, ◌+◌, ◌*◌}
use Rattle.sort_terms.specs.TermSize.{size_of, sizes_of}
use Rattle.sort_terms.specs.TermView.{all_profiled}
use Rattle.term_match.specs.FoundView.{found_pairs}
use Rattle.term_match.specs.Search.{all_searched}
use Rattle.term_match.proofs.bindings.+search.Given as goal

abbrev pub decreases-search : goal.decreases-search
decreases-search l = 2 * size_of l.pattern.now

abbrev pub decreases-search_all : goal.decreases-search_all
decreases-search_all l = 2 * sizes_of l.patterns.now.items + 1

abbrev pub invariant-search_all-loop-i : goal.invariant-search_all-loop-i
invariant-search_all-loop-i l =
    all_searched (all_profiled l.patterns.items) (all_profiled l.terms.items) (found_pairs l.fn.found.items)
    ≡ all_searched (all_profiled (drop l.i l.patterns.items)) (all_profiled (drop l.i l.terms.items)) (found_pairs l.found.items)
