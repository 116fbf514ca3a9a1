use Rattle.std.proofs.Common.{drop, map, take, ◌+◌, ◌*◌}
use Rattle.std.specs.Vec.Iter.{into_iter_items}
use Rattle.sort_terms.specs.TermSize.{size_of, sizes_of}
use Rattle.sort_terms.specs.TermView.{profiled_of}
use Rattle.term_rewriter.proofs.FilledLemmas.{AreFilledSoFar}
use Rattle.term_rewriter.proofs.filling.+filling.Given as goal

abbrev pub decreases-filled : goal.decreases-filled
decreases-filled l = 2 * size_of l.term.now

abbrev pub decreases-all_filled : goal.decreases-all_filled
decreases-all_filled l = 2 * sizes_of l.terms.now.items + 1

abbrev pub invariant-all_filled-loop-term : goal.invariant-all_filled-loop-term
invariant-all_filled-loop-term l =
    AreFilledSoFar l.term-items (map profiled_of (into_iter_items l.fn.values)) (take l.term-index l.term-items)
    (drop l.term-index l.term-items) l.made.items (map profiled_of (into_iter_items l.values))
