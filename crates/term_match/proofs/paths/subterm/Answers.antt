use Rattle.std.proofs.Common.{◌≡◌, ap, sym, ◌∙◌, subst}
use Rattle.std.specs.Prelude.{Option, Some}
use Rattle.std.specs.Option.{option_map}
use Rattle.sort_terms.specs.ProfiledTerm.{ProfiledTerm, bare, FitsProfiles}
use Rattle.sort_terms.specs.SortedView.{profiled_in}
use Rattle.sort_terms.specs.TermView.{profiled_of}
use Rattle.sort_terms.specs.declared.terms.Term.{Term}
use Rattle.term_match.specs.ProfiledPath.{profiled_subterm}
use Rattle.term_match.proofs.PathLemmas.{subterm_bare, subterm_fits}
use Rattle.term_match.proofs.paths.subterm.Goals as goal

pub of-requires : goal.of-requires
of-requires c =
    let found : profiled_subterm c.args.path.now (profiled_in c.args.term.now) ≡ Some (profiled_of c.in-Some.part.now) =
    sym (c.in-Some.ensures ∙ ap (λ (t : Term). profiled_subterm c.args.path.now (profiled_of t)) c.term.ensures) in
    subst (λ (p : ProfiledTerm). FitsProfiles p) (sym c.in_ok-copy-in-Some.ensures)
    (subterm_fits c.args.path.now (profiled_in c.args.term.now) (profiled_of c.in-Some.part.now) c.args.term.now.fits found)

pub returns-in_ok-copy-in-Some-clause-part : goal.returns-in_ok-copy-in-Some-clause-part
returns-in_ok-copy-in-Some-clause-part c =
    let found : profiled_subterm c.args.path.now (profiled_in c.args.term.now) ≡ Some (profiled_of c.in-Some.part.now) =
    sym (c.in-Some.ensures ∙ ap (λ (t : Term). profiled_subterm c.args.path.now (profiled_of t)) c.term.ensures) in
    ap (λ (t : Term). Some (bare (profiled_of t))) c.of.ensures ∙ ap (λ (p : ProfiledTerm). Some (bare p)) c.in_ok-copy-in-Some.ensures
    ∙ ap (λ (o : Option ProfiledTerm). option_map bare o) (sym found) ∙ subterm_bare c.args.path.now (profiled_in c.args.term.now)

pub returns-in-None-clause-part : goal.returns-in-None-clause-part
returns-in-None-clause-part c =
    ap (λ (o : Option ProfiledTerm). option_map bare o) (c.in-None.ensures
    ∙ ap (λ (t : Term). profiled_subterm c.args.path.now (profiled_of t)) c.term.ensures)
    ∙ subterm_bare c.args.path.now (profiled_in c.args.term.now)
