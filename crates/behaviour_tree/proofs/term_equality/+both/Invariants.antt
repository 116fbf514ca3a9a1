use Rattle.std.proofs.Common.{◌≡◌, ◌+◌, ◌*◌, take}
use Rattle.lotos_base.specs.Substitution.{all_substituted}
use Rattle.sort_terms.specs.TermSize.{size_of, sizes_of}
use Rattle.sort_terms.specs.TermView.{bare_terms_of}
use Rattle.behaviour_tree.specs.Placings.{values_of}
use Rattle.behaviour_tree.proofs.term_equality.+both.Given as goal

abbrev pub decreases-same_terms : goal.decreases-same_terms
decreases-same_terms l = 2 * size_of l.term.now

abbrev pub decreases-all_same_terms : goal.decreases-all_same_terms
decreases-all_same_terms l = 2 * sizes_of l.terms.now.items + 1

abbrev pub invariant-all_same_terms-loop-i : goal.invariant-all_same_terms-loop-i
invariant-all_same_terms-loop-i l =
    all_substituted (values_of l.here) (bare_terms_of (take l.i l.terms.items))
    ≡ all_substituted (values_of l.there) (bare_terms_of (take l.i l.others.items))
