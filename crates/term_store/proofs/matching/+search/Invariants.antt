use Rattle.std.proofs.Common.{◌≡◌, ◌+◌, ◌*◌, drop}
use Rattle.sort_terms.specs.TermView.{profiled_of, all_profiled}
use Rattle.term_store.specs.NumberSearch.{all_number_searched}
use Rattle.term_store.specs.SharedView.{keys_in}
use Rattle.term_store.proofs.SizeLemmas.{size, sizes}
use Rattle.term_store.proofs.matching.+search.Given as goal

abbrev pub decreases-search : goal.decreases-search
decreases-search l = 2 * size (profiled_of l.pattern.now)

abbrev pub decreases-search_all : goal.decreases-search_all
decreases-search_all l = 2 * sizes (all_profiled l.patterns.now.items) + 1

abbrev pub invariant-search_all-loop-i : goal.invariant-search_all-loop-i
invariant-search_all-loop-i l =
    all_number_searched (keys_in l.shared) (all_profiled l.patterns.items) l.numbers l.fn.found.items
    ≡ all_number_searched (keys_in l.shared) (all_profiled (drop l.i l.patterns.items)) (drop l.i l.numbers) l.found.items
