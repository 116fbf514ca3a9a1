use Rattle.std.proofs.Common.{ap, ◌∙◌, sym, subst}
use Rattle.sort_terms.specs.ProfiledTerm.{ProfiledTerm, bare, FitsProfiles}
use Rattle.sort_terms.specs.TermView.{profiled_of}
use Rattle.sort_terms.specs.declared.terms.Term.{Term}
use Rattle.term_match.specs.ProfiledInstance.{profiled_instance}
use Rattle.event_offers.specs.Values.{profiled_values}
use Rattle.event_offers.proofs.ValueLemmas.{valued_fits, valued_bare}
use Rattle.event_offers.proofs.valued.Values.put_into.Goals as goal

pub of-requires : goal.of-requires
of-requires c =
    let is = c.in_ok-rebuilt.ensures ∙ (λ i. profiled_instance (profiled_values c.args.self.now) (profiled_of (c.term.ensures i))) in
    subst (λ (p : ProfiledTerm). FitsProfiles p) (sym is) (valued_fits c.args.self.now c.args.term.now c.requires)

pub returns-clause-same : goal.returns-clause-same
returns-clause-same c =
    let is = c.in_ok-rebuilt.ensures ∙ (λ i. profiled_instance (profiled_values c.args.self.now) (profiled_of (c.term.ensures i))) in
    ap (λ (t : Term). bare (profiled_of t)) c.of.ensures ∙ ap bare is ∙ valued_bare c.args.self.now (profiled_of c.args.term.now.term)
