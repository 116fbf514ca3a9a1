use Rattle.std.proofs.Common.{◌≡◌, take, ◌+◌, ◌*◌}
use Rattle.sort_terms.specs.TermSize.{size_of, sizes_of}
use Rattle.sort_terms.specs.TermView.{all_profiled}
use Rattle.term_match.specs.ProfiledInstance.{profiled_binding, profiled_instances}
use Rattle.term_match.specs.SubstView.{profiled_pairs}
use Rattle.term_match.proofs.instances.+instance.Given as goal

abbrev pub decreases-instance : goal.decreases-instance
decreases-instance l = 2 * size_of l.term.now

abbrev pub decreases-instances : goal.decreases-instances
decreases-instances l = 2 * sizes_of l.terms.now.items + 1

abbrev pub invariant-instances-loop-term : goal.invariant-instances-loop-term
invariant-instances-loop-term l =
    all_profiled l.made.items ≡ profiled_instances (profiled_binding (profiled_pairs l.pairs))
    (all_profiled (take l.term-index l.term-items))
