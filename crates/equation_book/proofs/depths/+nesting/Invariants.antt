use Rattle.std.proofs.Common.{◌+◌, ◌*◌}
use Rattle.sort_terms.specs.TermSize.{size_of, sizes_of}
use Rattle.equation_book.proofs.depths.+nesting.Given as goal

abbrev pub decreases-nests_within : goal.decreases-nests_within
decreases-nests_within l = 2 * size_of l.term.now

abbrev pub decreases-all_within : goal.decreases-all_within
decreases-all_within l = 2 * sizes_of l.terms.now.items + 1
