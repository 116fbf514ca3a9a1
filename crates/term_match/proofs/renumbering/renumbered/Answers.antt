use Rattle.std.proofs.Common.{ap, sym, ◌∙◌, subst}
use Rattle.sort_terms.specs.ProfiledTerm.{ProfiledTerm, bare, FitsProfiles}
use Rattle.sort_terms.specs.SortedView.{profiled_in}
use Rattle.sort_terms.specs.TermView.{profiled_of}
use Rattle.sort_terms.specs.declared.terms.Term.{Term}
use Rattle.term_match.specs.ProfiledInstance.{profiled_instance}
use Rattle.term_match.specs.Renumbering.{new_number, profiled_renaming}
use Rattle.term_match.proofs.NumberLemmas.{renumbered_plain, renumbered_fits}
use Rattle.term_match.proofs.renumbering.renumbered.Goals as goal

pub of-requires : goal.of-requires
of-requires c =
    let is = c.in_ok-renumbered_term.ensures
    ∙ (λ i. profiled_instance (profiled_renaming (new_number c.args.numbers.now)) (profiled_of (c.term.ensures i))) in
    subst (λ (p : ProfiledTerm). FitsProfiles p) (sym is)
    (renumbered_fits (new_number c.args.numbers.now) (profiled_in c.args.term.now) c.args.term.now.fits)

pub returns-clause-plain : goal.returns-clause-plain
returns-clause-plain c =
    let is = c.in_ok-renumbered_term.ensures
    ∙ (λ i. profiled_instance (profiled_renaming (new_number c.args.numbers.now)) (profiled_of (c.term.ensures i))) in
    ap (λ (t : Term). bare (profiled_of t)) c.of.ensures ∙ ap bare is
    ∙ renumbered_plain (new_number c.args.numbers.now) (profiled_in c.args.term.now)
