use Rattle.std.proofs.Common.{◌≡◌, ◌++◌, ◌∷◌, List, sym, subst}
use Rattle.lotos_base.specs.Equation.{Data}
use Rattle.lotos_base.specs.Substitution.{binding}
use Rattle.lotos_base.specs.Term.{Term}
use Rattle.term_match.specs.SubstView.{profiled_pairs}
use Rattle.behaviour_tree.specs.BehaviourTerms.{profiles_of}
use Rattle.behaviour_tree.specs.BehaviourView.{terms_of}
use Rattle.behaviour_tree.specs.Over.{AreTermsOf}
use Rattle.behaviour_tree.specs.StateView.{environment_of}
use Rattle.behaviour_tree.specs.declared.behaviours.Offer.{Offer}
use Rattle.event_offers.proofs.KeepingLemmas.{keeps_both}
use Rattle.draft_parts.specs.Environments.{IsOfferReady}
use Rattle.draft_parts.specs.Offered.{offered_at}
use Rattle.draft_parts.proofs.TurnLemmas.{one_turn, at_turn}
use Rattle.draft_parts.proofs.offers.offered.Goals as goal

pub push_offered-requires : goal.push_offered-requires
push_offered-requires g c =
    subst (λ (d : Data). IsOfferReady d.signature (profiled_pairs c.args.environment.now.items) c.offer-item.result)
    (sym c.loop-offer.invariant.same_known.same_data)
    (at_turn (IsOfferReady (g.D.Deciding.known_data c.args.decider.now).signature (profiled_pairs c.args.environment.now.items))
    c.deref-offer-items.result.now c.loop-offer.offer-index c.offer-item.result c.loop-offer-test.true c.offer-item.is
    c.loop-offer.invariant.left).0

pub loop-offer-preserved : goal.loop-offer-preserved
loop-offer-preserved g c = record {
  same = one_turn (offered_at (g.D.Deciding.canon c.args.decider.now) (binding (environment_of c.args.environment.now.items)))
      c.deref-offer-items.result.now c.loop-offer.offer-index c.offer-item.result (terms_of c.loop-offer.made.items)
      (terms_of c.push_offered.new.values.items) _ c.loop-offer.number c.in_ok-number.number c.loop-offer-test.true c.offer-item.is
      (subst (λ (canon : Term → Term). (rest : List Offer) → terms_of c.push_offered.new.values.items
      ++ offered_at canon (binding (environment_of c.args.environment.now.items)) c.in_ok-number.number rest
      ≡ terms_of c.loop-offer.made.items
      ++ offered_at canon (binding (environment_of c.args.environment.now.items)) c.loop-offer.number (c.offer-item.result ∷ rest))
      c.loop-offer.invariant.same_known.same_canon c.in_ok-number.ensures.same) c.loop-offer.invariant.same;
  over = subst (λ (d : Data). AreTermsOf d.signature (profiles_of c.loop-offer.made.items)
      → AreTermsOf d.signature (profiles_of c.push_offered.new.values.items)) c.loop-offer.invariant.same_known.same_data
      c.in_ok-number.ensures.is_of c.loop-offer.invariant.over;
  left = (at_turn (IsOfferReady (g.D.Deciding.known_data c.args.decider.now).signature (profiled_pairs c.args.environment.now.items))
      c.deref-offer-items.result.now c.loop-offer.offer-index c.offer-item.result c.loop-offer-test.true c.offer-item.is
      c.loop-offer.invariant.left).1;
  same_known = keeps_both c.loop-offer.invariant.same_known c.push_offered.ensures.same_known;
}
