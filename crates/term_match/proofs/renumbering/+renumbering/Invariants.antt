use Rattle.std.proofs.Common.{◌≡◌, take, ◌+◌, ◌*◌}
use Rattle.sort_terms.specs.TermSize.{size_of, sizes_of}
use Rattle.sort_terms.specs.TermView.{all_profiled}
use Rattle.term_match.specs.ProfiledInstance.{profiled_instances}
use Rattle.term_match.specs.Renumbering.{new_number, profiled_renaming}
use Rattle.term_match.proofs.renumbering.+renumbering.Given as goal

abbrev pub decreases-renumbered_term : goal.decreases-renumbered_term
decreases-renumbered_term l = 2 * size_of l.term.now

abbrev pub decreases-renumbered_terms : goal.decreases-renumbered_terms
decreases-renumbered_terms l = 2 * sizes_of l.terms.now.items + 1

abbrev pub invariant-renumbered_terms-loop-term : goal.invariant-renumbered_terms-loop-term
invariant-renumbered_terms-loop-term l =
    all_profiled l.made.items ≡ profiled_instances (profiled_renaming (new_number l.numbers))
    (all_profiled (take l.term-index l.term-items))
