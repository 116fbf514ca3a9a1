use Rattle.std.proofs.Common.{◌≡◌, ◌+◌, ◌*◌, drop}
use Rattle.lotos_base.specs.Substitution.{all_substituted}
use Rattle.behaviour_tree.specs.Placings.{values_of}
use Rattle.sort_terms.specs.TermSize.{size_of, sizes_of}
use Rattle.sort_terms.specs.TermView.{bare_terms_of}
use Rattle.behaviour_tree.specs.TermDigests.{arguments_digest}
use Rattle.behaviour_tree.proofs.term_digests.+placed.Given as goal

abbrev pub decreases-placed_behind : goal.decreases-placed_behind
decreases-placed_behind l = 2 * size_of l.term.now

abbrev pub decreases-placed_digests : goal.decreases-placed_digests
decreases-placed_digests l = 2 * sizes_of l.terms.now.items + 1

abbrev pub invariant-placed_digests-loop-term : goal.invariant-placed_digests-loop-term
invariant-placed_digests-loop-term l =
    arguments_digest l.before (all_substituted (values_of l.here) (bare_terms_of l.term-items))
    ≡ arguments_digest l.digest (all_substituted (values_of l.here) (bare_terms_of (drop l.term-index l.term-items)))
