use Rattle.std.proofs.Common.{ap, ◌∙◌, sym, subst}
use Rattle.sort_terms.specs.ProfiledTerm.{ProfiledTerm, bare, FitsProfiles}
use Rattle.sort_terms.specs.TermView.{profiled_of}
use Rattle.sort_terms.specs.declared.terms.Term.{Term}
use Rattle.term_match.specs.ProfiledInstance.{profiled_instance}
use Rattle.event_offers.specs.Renaming.{profiled_renaming_of}
use Rattle.event_offers.proofs.RenamingLemmas.{renamed_fits, renamed_bare}
use Rattle.event_offers.proofs.renaming.Renaming.term.Goals as goal

pub of-requires : goal.of-requires
of-requires c =
    let is = c.in_ok-rebuilt.ensures ∙ (λ i. profiled_instance (profiled_renaming_of c.args.self.now) (profiled_of (c.term.ensures i))) in
    subst (λ (p : ProfiledTerm). FitsProfiles p) (sym is) (renamed_fits c.args.self.now c.args.term.now)

pub returns-clause-same : goal.returns-clause-same
returns-clause-same c =
    let is = c.in_ok-rebuilt.ensures ∙ (λ i. profiled_instance (profiled_renaming_of c.args.self.now) (profiled_of (c.term.ensures i))) in
    ap (λ (t : Term). bare (profiled_of t)) c.of.ensures ∙ ap bare is ∙ renamed_bare c.args.self.now (profiled_of c.args.term.now.term)
