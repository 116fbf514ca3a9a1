use Rattle.std.proofs.Common.{◌-◌, length}
use Rattle.sort_terms.specs.SortedView.{profiled_in}
use Rattle.term_match.specs.SubstView.{profiled_pairs}
use Rattle.term_match.proofs.StateLemmas.{IsSolving}
use Rattle.term_match.proofs.UnifierLemmas.{room}
use Rattle.term_match.proofs.unification.unify.Given as goal

abbrev pub invariant-loop-state : goal.invariant-loop-state
invariant-loop-state l =
    IsSolving (profiled_in l.left) (profiled_in l.right) (profiled_pairs l.state.pairs.items) (profiled_in l.state.left)
    (profiled_in l.state.right)

abbrev pub decreases-loop-state : goal.decreases-loop-state
decreases-loop-state l = room (profiled_in l.left) (profiled_in l.right) - length (profiled_pairs l.state.pairs.items)
