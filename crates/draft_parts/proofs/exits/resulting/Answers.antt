use Rattle.std.proofs.Common.{◌≡◌, ◌++◌, ◌∷◌, List, sym, subst}
use Rattle.lotos_base.specs.Equation.{Data}
use Rattle.lotos_base.specs.Substitution.{binding}
use Rattle.lotos_base.specs.Term.{Term}
use Rattle.term_match.specs.SubstView.{profiled_pairs}
use Rattle.behaviour_tree.specs.BehaviourTerms.{profiles_of}
use Rattle.behaviour_tree.specs.BehaviourView.{terms_of}
use Rattle.behaviour_tree.specs.Over.{AreTermsOf}
use Rattle.behaviour_tree.specs.StateView.{environment_of}
use Rattle.behaviour_tree.specs.declared.behaviours.ExitValue.{ExitValue}
use Rattle.event_offers.proofs.KeepingLemmas.{keeps_both}
use Rattle.draft_parts.specs.Environments.{IsResultReady}
use Rattle.draft_parts.specs.Offered.{results_at}
use Rattle.draft_parts.proofs.TurnLemmas.{one_turn, at_turn}
use Rattle.draft_parts.proofs.exits.resulting.Goals as goal

pub push_result-requires : goal.push_result-requires
push_result-requires g c =
    subst (λ (d : Data). IsResultReady d.signature (profiled_pairs c.args.environment.now.items) c.result-item.result)
    (sym c.loop-result.invariant.same_known.same_data)
    (at_turn (IsResultReady (g.D.Deciding.known_data c.args.decider.now).signature (profiled_pairs c.args.environment.now.items))
    c.deref-result-items.result.now c.loop-result.result-index c.result-item.result c.loop-result-test.true c.result-item.is
    c.loop-result.invariant.left).0

pub loop-result-preserved : goal.loop-result-preserved
loop-result-preserved g c = record {
  same = one_turn (results_at (g.D.Deciding.canon c.args.decider.now) (binding (environment_of c.args.environment.now.items)))
      c.deref-result-items.result.now c.loop-result.result-index c.result-item.result (terms_of c.loop-result.made.items)
      (terms_of c.push_result.new.values.items) _ c.loop-result.number c.in_ok-number.number c.loop-result-test.true c.result-item.is
      (subst (λ (canon : Term → Term). (rest : List ExitValue) → terms_of c.push_result.new.values.items
      ++ results_at canon (binding (environment_of c.args.environment.now.items)) c.in_ok-number.number rest
      ≡ terms_of c.loop-result.made.items
      ++ results_at canon (binding (environment_of c.args.environment.now.items)) c.loop-result.number (c.result-item.result ∷ rest))
      c.loop-result.invariant.same_known.same_canon c.in_ok-number.ensures.same) c.loop-result.invariant.same;
  over = subst (λ (d : Data). AreTermsOf d.signature (profiles_of c.loop-result.made.items)
      → AreTermsOf d.signature (profiles_of c.push_result.new.values.items)) c.loop-result.invariant.same_known.same_data
      c.in_ok-number.ensures.is_of c.loop-result.invariant.over;
  left = (at_turn (IsResultReady (g.D.Deciding.known_data c.args.decider.now).signature (profiled_pairs c.args.environment.now.items))
      c.deref-result-items.result.now c.loop-result.result-index c.result-item.result c.loop-result-test.true c.result-item.is
      c.loop-result.invariant.left).1;
  same_known = keeps_both c.loop-result.invariant.same_known c.push_result.ensures.same_known;
}
