use Rattle.std.proofs.Common.{drop, ◌+◌, ◌*◌}
use Rattle.std.specs.Vec.Iter.{into_iter_items}
use Rattle.sort_terms.specs.TermSize.{size_of, sizes_of}
use Rattle.term_rewriter.specs.Taken.{owned_pairs}
use Rattle.term_rewriter.proofs.TakenLemmas.{AreLeft}
use Rattle.term_rewriter.proofs.taking.+taking.Given as goal

abbrev pub decreases-taken : goal.decreases-taken
decreases-taken l = 2 * size_of l.pattern.now

abbrev pub decreases-all_taken : goal.decreases-all_taken
decreases-all_taken l = 2 * sizes_of l.patterns.now.items + 1

abbrev pub invariant-all_taken-loop-pattern : goal.invariant-all_taken-loop-pattern
invariant-all_taken-loop-pattern l =
    AreLeft l.pattern-items l.fn.terms.items (owned_pairs l.fn.values.items) (drop l.pattern-index l.pattern-items)
    (into_iter_items l.rest) (owned_pairs l.values.items)
