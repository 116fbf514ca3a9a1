use Rattle.std.proofs.Common.{◌≡◌, ◌≤◌, length, drop, ◌+◌, ◌*◌}
use Rattle.sort_terms.specs.TermSize.{size_of, sizes_of}
use Rattle.sort_terms.specs.TermView.{all_profiled}
use Rattle.term_match.specs.Disagreement.{disagreement_of_lists}
use Rattle.term_match.proofs.differences.+difference.Given as goal

abbrev pub decreases-differ : goal.decreases-differ
decreases-differ l = 2 * size_of l.left.now

abbrev pub decreases-differ_among : goal.decreases-differ_among
decreases-differ_among l = 2 * sizes_of l.terms.now.items + 1

abbrev pub invariant-differ_among-loop-i : goal.invariant-differ_among-loop-i
invariant-differ_among-loop-i l = record {
  within : l.i ≤ length l.others.items;
  same : disagreement_of_lists (all_profiled l.terms.items) (all_profiled l.others.items)
      ≡ disagreement_of_lists (all_profiled (drop l.i l.terms.items)) (all_profiled (drop l.i l.others.items));
}
