use Rattle.std.proofs.Common.{drop, map}
use Rattle.sort_terms.specs.TermView.{profiled_of}
use Rattle.term_rewriter.specs.Taken.{owned_pairs}
use Rattle.term_rewriter.proofs.WantedLemmas.{AreSupplied}
use Rattle.term_rewriter.proofs.wanting.values_for.Given as goal

abbrev pub invariant-loop-i : goal.invariant-loop-i
invariant-loop-i l =
    AreSupplied l.wanted (owned_pairs l.fn.values.items) (drop l.i l.wanted) (map profiled_of l.made.items) (owned_pairs l.values.items)
