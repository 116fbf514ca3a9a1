use Rattle.std.proofs.Common.{◌≡◌, take, ◌+◌, ◌*◌}
use Rattle.sort_terms.specs.TermView.{all_profiled}
use Rattle.type_equations.specs.ProfiledNumbering.{all_profiled_renumbered}
use Rattle.sort_terms.specs.TermSize.{size_of, sizes_of}
use Rattle.type_equations.proofs.numbering.+numbering.Given as goal

abbrev pub decreases-renumbered_term : goal.decreases-renumbered_term
decreases-renumbered_term l = 2 * size_of l.term.now

abbrev pub decreases-renumbered_terms : goal.decreases-renumbered_terms
decreases-renumbered_terms l = 2 * sizes_of l.terms.now.items + 1

abbrev pub invariant-renumbered_terms-loop-term : goal.invariant-renumbered_terms-loop-term
invariant-renumbered_terms-loop-term l =
    all_profiled l.made.items ≡ all_profiled_renumbered l.order.keys (all_profiled (take l.term-index l.term-items))
