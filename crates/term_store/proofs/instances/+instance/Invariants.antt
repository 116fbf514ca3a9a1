use Rattle.std.proofs.Common.{◌+◌, ◌*◌, drop}
use Rattle.sort_terms.specs.TermView.{profiled_of, all_profiled}
use Rattle.term_store.specs.SharedView.{keys_in}
use Rattle.term_store.proofs.NumberingLemmas.{IsNumberedSoFar}
use Rattle.term_store.proofs.SizeLemmas.{size, sizes}
use Rattle.term_store.proofs.instances.+instance.Given as goal

abbrev pub decreases-instance : goal.decreases-instance
decreases-instance l = 2 * size (profiled_of l.term.now)

abbrev pub decreases-add_instances : goal.decreases-add_instances
decreases-add_instances l = 2 * sizes (all_profiled l.terms.now.items) + 1

abbrev pub invariant-add_instances-loop-term : goal.invariant-add_instances-loop-term
invariant-add_instances-loop-term l =
    IsNumberedSoFar l.pairs (all_profiled l.term-items) (all_profiled (drop l.term-index l.term-items)) (keys_in l.fn.shared)
    (keys_in l.shared) l.fn.numbers.items l.numbers.items
