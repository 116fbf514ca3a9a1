use Rattle.std.proofs.Common.{ℕ, List, ap, sym, ◌∙◌, subst}
use Rattle.std.proofs.lemmas.Result.{IfOk-weaker}
use Rattle.event_offers.proofs.ValueLemmas.{pairs_put}
use Rattle.lotos_base.specs.Substitution.{binding, substituted}
use Rattle.sort_terms.specs.ProfiledTerm.{IsOf}
use Rattle.sort_terms.specs.SortedView.{profiled_in, term_in}
use Rattle.sort_terms.specs.declared.sorted.Sorted.{Sorted}
use Rattle.term_match.specs.ProfiledInstance.{profiled_binding, profiled_instance}
use Rattle.term_match.specs.SubstView.{profiled_pairs}
use Rattle.behaviour_tree.specs.StateView.{environment_of}
use Rattle.draft_parts.specs.Environments.{SuitsPairs}
use Rattle.draft_parts.proofs.PairLemmas.{ready_of}
use Rattle.draft_parts.proofs.environments.placed.Goals as goal

pub put_into-requires : goal.put_into-requires
put_into-requires c =
    subst (λ (ps : List (ℕ × Sorted)). SuitsPairs (profiled_pairs ps) (profiled_in c.args.term.now))
    (sym c.as_slice.ensures.value) c.requires

pub returns-clause-same : goal.returns-clause-same
returns-clause-same c =
    IfOk-weaker c.put_into.result _ _ (λ t e. e ∙ (pairs_put c.as_slice.result.now (term_in c.args.term.now)
    ∙ ap (λ (ps : List (ℕ × Sorted)). substituted (binding (environment_of ps)) (term_in c.args.term.now)) c.as_slice.ensures.value))
    c.put_into.ensures.same

pub returns-clause-over : goal.returns-clause-over
returns-clause-over c =
    IfOk-weaker c.put_into.result _ _ (λ t e signature r. subst (IsOf signature) (sym e)
    (subst (λ (ps : List (ℕ × Sorted)). IsOf signature
    (profiled_instance (profiled_binding (profiled_pairs ps)) (profiled_in c.args.term.now))) (sym c.as_slice.ensures.value)
    (ready_of signature (profiled_pairs c.args.environment.now.items) (profiled_in c.args.term.now) r))) c.put_into.ensures.profiles
