use Rattle.std.proofs.Common.{◌≡◌, ◌++◌, map, drop}
use Rattle.sort_terms.specs.SortedView.{profiled_in, term_in}
use Rattle.behaviour_tree.proofs.copies.term_copies.Given as goal

abbrev pub invariant-loop-term : goal.invariant-loop-term
invariant-loop-term l =
    (map term_in l.made.items ++ map term_in (drop l.term-index l.term-items) ≡ map term_in l.term-items)
    × (map profiled_in l.made.items ++ map profiled_in (drop l.term-index l.term-items) ≡ map profiled_in l.term-items)
