use Rattle.std.proofs.Common.{◌≡◌, ◌+◌, ◌*◌, take}
use Rattle.lotos_base.specs.Substitution.{all_substituted}
use Rattle.sort_terms.specs.TermSize.{size_of, sizes_of}
use Rattle.sort_terms.specs.TermView.{bare_terms_of}
use Rattle.behaviour_tree.specs.Placings.{values_of}
use Rattle.behaviour_tree.proofs.term_equality.+placed.Given as goal

abbrev pub decreases-is_placed : goal.decreases-is_placed
decreases-is_placed l = 2 * size_of l.other.now

abbrev pub decreases-are_placed : goal.decreases-are_placed
decreases-are_placed l = 2 * sizes_of l.others.now.items + 1

abbrev pub invariant-are_placed-loop-i : goal.invariant-are_placed-loop-i
invariant-are_placed-loop-i l =
    bare_terms_of (take l.i l.terms.items) ≡ all_substituted (values_of l.placing) (bare_terms_of (take l.i l.others.items))
