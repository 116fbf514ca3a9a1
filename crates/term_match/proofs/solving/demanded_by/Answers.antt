use Rattle.std.proofs.Common.{◌≡◌, sym, ◌∙◌, subst}
use Rattle.sort_terms.specs.ProfiledTerm.{ProfiledTerm, FitsProfiles}
use Rattle.sort_terms.specs.SortedView.{profiled_in}
use Rattle.sort_terms.specs.TermView.{profiled_of}
use Rattle.term_match.proofs.MatchLemmas.{fits_inherited}
use Rattle.term_match.specs.Disagreement.{disagreement, binds}
use Rattle.term_match.proofs.AgreeLemmas.{bound_parts}
use Rattle.term_match.proofs.solving.demanded_by.Goals as goal

pub of-requires : goal.of-requires
of-requires c =
    let is : disagreement (profiled_in c.args.left.now) (profiled_in c.args.right.now)
    ≡ binds c.in-Bound.number c.in-Bound.sort (profiled_of c.in-Bound.value.now) =
    sym (c.in-Bound.ensures ∙ (λ i. disagreement (profiled_of (c.term.ensures i)) (profiled_of (c.term-2.ensures i)))) in
    subst (λ (p : ProfiledTerm). FitsProfiles p) (sym c.in_ok-copy-in-Bound.ensures)
    (bound_parts FitsProfiles fits_inherited (profiled_in c.args.left.now) (profiled_in c.args.right.now) c.in-Bound.number
    c.in-Bound.sort (profiled_of c.in-Bound.value.now) is c.args.left.now.fits c.args.right.now.fits).1
