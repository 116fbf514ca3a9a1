use Rattle.std.proofs.Common.{◌≡◌, ℕ, List, map, arith, ap, sym, ◌∙◌, subst}
use Rattle.draft_parts.proofs.TurnLemmas.{at_turn}
use Rattle.lotos_base.specs.Equation.{Data}
use Rattle.lotos_base.specs.Substitution.{binding, substituted}
use Rattle.lotos_base.specs.Term.{Term}
use Rattle.sort_terms.specs.ProfiledTerm.{IsOf}
use Rattle.sort_terms.specs.SortedView.{profiled_in, term_in}
use Rattle.sort_terms.specs.declared.equations.Variable.{Variable}
use Rattle.sort_terms.specs.declared.sorted.Sorted.{Sorted}
use Rattle.term_match.specs.ProfiledInstance.{bare_pairs}
use Rattle.term_match.specs.SubstView.{profiled_pairs}
use Rattle.behaviour_semantics.specs.Behaviour.{let_variables, let_terms}
use Rattle.behaviour_tree.specs.BehaviourView.{let_of}
use Rattle.draft_parts.specs.Environments.{IsReadyForPairs}
use Rattle.draft_parts.specs.BelowLaws.{binder_pairs}
use Rattle.draft_parts.proofs.HandedOn.{keeps_both, pairs_bare}
use Rattle.menu_builder.proofs.BinderLemmas.{let_turn, let_done, more_of}
use Rattle.menu_builder.proofs.binders.bound_values.Goals as goal

pub canonical-requires : goal.canonical-requires
canonical-requires g c =
    subst (λ (d : Data). IsReadyForPairs d.signature (profiled_pairs c.args.environment.now.items) (profiled_in c.binding-item.result.1))
    (sym c.loop-binding.invariant.same_known.same_data)
    (at_turn (λ (b : Variable × Sorted). IsReadyForPairs (g.D.Deciding.known_data c.args.decider.now).signature
    (profiled_pairs c.args.environment.now.items) (profiled_in b.1)) c.deref-binding-items.result.now c.loop-binding.binding-index
    c.binding-item.result c.loop-binding-test.true c.binding-item.is c.loop-binding.invariant.left).0

pub loop-binding-preserved : goal.loop-binding-preserved
loop-binding-preserved g c = record {
  same = let_turn (g.D.Deciding.canon c.args.decider.now) (bare_pairs (profiled_pairs c.args.environment.now.items))
      c.deref-binding-items.result.now c.loop-binding.binding-index c.binding-item.result c.loop-binding.pairs.items c.push.new.self.items
      c.in_ok-value.value _ c.loop-binding-test.true c.binding-item.is c.in_ok-push.ensures.items
      (subst (λ (canon : Term → Term). term_in c.in_ok-value.value
      ≡ canon (substituted (binding (bare_pairs (profiled_pairs c.args.environment.now.items))) (term_in c.binding-item.result.1)))
      c.loop-binding.invariant.same_known.same_canon
      (subst (λ (ps : List (ℕ × Term)). term_in c.in_ok-value.value
      ≡ g.D.Deciding.canon c.loop-binding.decider (substituted (binding ps) (term_in c.binding-item.result.1)))
      (sym (pairs_bare c.args.environment.now.items)) c.in_ok-value.ensures.same))
      c.loop-binding.invariant.same;
  is_of = more_of (g.D.Deciding.known_data c.args.decider.now).signature c.loop-binding.pairs.items c.push.new.self.items _
      c.in_ok-value.value c.in_ok-push.ensures.items c.loop-binding.invariant.is_of
      (subst (λ (d : Data). IsOf d.signature (profiled_in c.in_ok-value.value)) c.loop-binding.invariant.same_known.same_data
      c.in_ok-value.ensures.is_of);
  left = (at_turn (λ (b : Variable × Sorted). IsReadyForPairs (g.D.Deciding.known_data c.args.decider.now).signature
      (profiled_pairs c.args.environment.now.items) (profiled_in b.1)) c.deref-binding-items.result.now c.loop-binding.binding-index
      c.binding-item.result c.loop-binding-test.true c.binding-item.is c.loop-binding.invariant.left).1;
  same_known = keeps_both c.loop-binding.invariant.same_known c.canonical.ensures.same_known;
}

pub returns-clause-same : goal.returns-clause-same
returns-clause-same g c =
    pairs_bare c.loop-binding.pairs.items
    ∙ (let_done (g.D.Deciding.canon c.args.decider.now) (bare_pairs (profiled_pairs c.args.environment.now.items))
    c.deref-binding-items.result.now c.loop-binding.binding-index c.loop-binding.pairs.items _ (omega arith) c.loop-binding.invariant.same
    ∙ ap (λ (bs : List (Variable × Sorted)). binder_pairs (g.D.Deciding.canon c.args.decider.now) (let_variables (map let_of bs))
    (let_terms (map let_of bs)) (bare_pairs (profiled_pairs c.args.environment.now.items))) c.deref-binding-items.ensures.value)
