use Rattle.std.proofs.Common.{ap, sym, ◌∙◌, subst}
use Rattle.sort_terms.specs.ProfiledTerm.{ProfiledTerm, bare, head_sort, FitsProfiles}
use Rattle.sort_terms.specs.SortedView.{profiled_in}
use Rattle.sort_terms.specs.TermView.{profiled_of}
use Rattle.sort_terms.specs.declared.terms.Term.{Term}
use Rattle.term_match.specs.ProfiledInstance.{profiled_instance, profiled_binding}
use Rattle.term_match.specs.SubstView.{profiled_pairs}
use Rattle.term_match.proofs.InstanceLemmas.{applied_fits, applied_sort, instance_by_pairs}
use Rattle.term_match.proofs.instances.apply.Goals as goal

pub of-requires : goal.of-requires
of-requires c =
    let is = c.in_ok-instance.ensures ∙ (λ i. profiled_instance (profiled_binding (profiled_pairs (c.pairs.ensures i)))
    (profiled_of (c.term.ensures i))) in
    subst (λ (p : ProfiledTerm). FitsProfiles p) (sym is) (applied_fits c.args.subst.now.pairs.items c.args.term.now c.requires.keeps_sorts)

pub returns-clause-instance : goal.returns-clause-instance
returns-clause-instance c =
    let is = c.in_ok-instance.ensures ∙ (λ i. profiled_instance (profiled_binding (profiled_pairs (c.pairs.ensures i)))
    (profiled_of (c.term.ensures i))) in
    ap (λ (t : Term). bare (profiled_of t)) c.of.ensures ∙ ap bare is
    ∙ instance_by_pairs (profiled_pairs c.args.subst.now.pairs.items) (profiled_in c.args.term.now)

pub returns-clause-sort : goal.returns-clause-sort
returns-clause-sort c =
    let is = c.in_ok-instance.ensures ∙ (λ i. profiled_instance (profiled_binding (profiled_pairs (c.pairs.ensures i)))
    (profiled_of (c.term.ensures i))) in
    sym c.of.result.headed ∙ ap (λ (t : Term). head_sort (profiled_of t)) c.of.ensures ∙ ap head_sort is
    ∙ applied_sort c.args.subst.now.pairs.items c.args.term.now c.requires.keeps_sorts
