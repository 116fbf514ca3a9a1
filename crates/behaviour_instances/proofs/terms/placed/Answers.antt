use Rattle.std.proofs.Common.{ℕ, List, ap, sym, ◌∙◌, subst}
use Rattle.std.proofs.lemmas.Result.{IfOk-weaker}
use Rattle.event_offers.proofs.ValueLemmas.{pairs_put}
use Rattle.lotos_base.specs.Sorting.{Occurs}
use Rattle.lotos_base.specs.Substitution.{binding, substituted}
use Rattle.sort_terms.specs.SortedView.{profiled_in, term_in}
use Rattle.sort_terms.specs.declared.sorted.Sorted.{Sorted}
use Rattle.term_match.specs.ProfiledInstance.{profiled_binding, profiled_instance}
use Rattle.term_match.specs.SubstView.{profiled_pairs}
use Rattle.behaviour_tree.specs.StateView.{environment_of}
use Rattle.behaviour_instances.specs.Suited.{SuitsWhere}
use Rattle.behaviour_instances.proofs.terms.placed.Goals as goal

pub put_into-requires : goal.put_into-requires
put_into-requires c =
    subst (λ (ps : List (ℕ × Sorted)). SuitsWhere (profiled_pairs ps) (λ (n s : ℕ). Occurs n s (term_in c.args.term.now)))
    (sym c.as_slice.ensures.value) c.requires

pub returns-clause-same : goal.returns-clause-same
returns-clause-same c =
    IfOk-weaker c.put_into.result _ _ (λ t e. e ∙ (pairs_put c.as_slice.result.now (term_in c.args.term.now)
    ∙ ap (λ (ps : List (ℕ × Sorted)). substituted (binding (environment_of ps)) (term_in c.args.term.now)) c.as_slice.ensures.value))
    c.put_into.ensures.same

pub returns-clause-terms : goal.returns-clause-terms
returns-clause-terms c =
    IfOk-weaker c.put_into.result _ _ (λ t e. e ∙ ap (λ (ps : List (ℕ × Sorted)).
    profiled_instance (profiled_binding (profiled_pairs ps)) (profiled_in c.args.term.now)) c.as_slice.ensures.value)
    c.put_into.ensures.profiles
