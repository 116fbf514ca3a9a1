use Rattle.std.proofs.Common.{◌≡◌, ◌<◌, ◌≤◌, ℕ, List, length, arith, sym, ◌∙◌, subst}
use Rattle.draft_parts.proofs.TurnLemmas.{at_turn}
use Rattle.lotos_base.specs.Equation.{Data}
use Rattle.lotos_base.specs.Substitution.{binding, substituted}
use Rattle.lotos_base.specs.Term.{Term}
use Rattle.sort_terms.specs.ProfiledTerm.{IsOf}
use Rattle.sort_terms.specs.SortedView.{profiled_in, term_in}
use Rattle.sort_terms.specs.declared.sorted.Sorted.{Sorted}
use Rattle.term_match.specs.ProfiledInstance.{bare_pairs}
use Rattle.term_match.specs.SubstView.{profiled_pairs}
use Rattle.draft_parts.specs.Environments.{IsReadyForPairs}
use Rattle.draft_parts.proofs.HandedOn.{keeps_both, pairs_bare}
use Rattle.menu_builder.proofs.BinderLemmas.{call_turn, call_done, more_of}
use Rattle.menu_builder.proofs.binders.call_environment.Goals as goal

pub loop-i-preserved : goal.loop-i-preserved
loop-i-preserved g c =
    let inside : c.loop-i.i < length c.args.values.now.items = omega arith in
    let count : length c.args.values.now.items ≡ length c.args.parameters.now.items = c.requires.count in
    let within : c.loop-i.i < length c.args.parameters.now.items = omega arith in
    record {
      same = call_turn (g.D.Deciding.canon c.args.decider.now) (bare_pairs (profiled_pairs c.args.environment.now.items))
          c.args.parameters.now.items c.args.values.now.items c.loop-i.i c.index-in-loop-i.result.now c.index.result.now
          c.loop-i.pairs.items c.push.new.self.items c.in_ok-value.value _ within c.index-in-loop-i.ensures inside c.index.ensures
          c.in_ok-push.ensures.items
          (subst (λ (canon : Term → Term). term_in c.in_ok-value.value
          ≡ canon (substituted (binding (bare_pairs (profiled_pairs c.args.environment.now.items))) (term_in c.index.result.now)))
          c.loop-i.invariant.same_known.same_canon
          (subst (λ (ps : List (ℕ × Term)). term_in c.in_ok-value.value
          ≡ g.D.Deciding.canon c.loop-i.decider (substituted (binding ps) (term_in c.index.result.now)))
          (sym (pairs_bare c.args.environment.now.items)) c.in_ok-value.ensures.same))
          c.loop-i.invariant.same;
      is_of = more_of (g.D.Deciding.known_data c.args.decider.now).signature c.loop-i.pairs.items c.push.new.self.items _
          c.in_ok-value.value c.in_ok-push.ensures.items c.loop-i.invariant.is_of
          (subst (λ (d : Data). IsOf d.signature (profiled_in c.in_ok-value.value)) c.loop-i.invariant.same_known.same_data
          c.in_ok-value.ensures.is_of);
      left = (at_turn (λ (t : Sorted). IsReadyForPairs (g.D.Deciding.known_data c.args.decider.now).signature
          (profiled_pairs c.args.environment.now.items) (profiled_in t)) c.args.values.now.items c.loop-i.i c.index.result.now inside
          c.index.ensures c.loop-i.invariant.left).1;
      same_known = keeps_both c.loop-i.invariant.same_known c.canonical.ensures.same_known;
    }

pub returns-clause-same : goal.returns-clause-same
returns-clause-same g c =
    let past : length c.args.values.now.items ≤ c.loop-i.i = omega arith in
    let count : length c.args.values.now.items ≡ length c.args.parameters.now.items = c.requires.count in
    let all : length c.args.parameters.now.items ≤ c.loop-i.i = omega arith in
    pairs_bare c.loop-i.pairs.items
    ∙ call_done (g.D.Deciding.canon c.args.decider.now) (bare_pairs (profiled_pairs c.args.environment.now.items))
    c.args.parameters.now.items c.args.values.now.items c.loop-i.i c.loop-i.pairs.items _ all c.loop-i.invariant.same
