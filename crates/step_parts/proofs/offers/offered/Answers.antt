use Rattle.std.proofs.Common.{◌≡◌, ◌+◌, ◌++◌, [], ◌∷◌, List, drop, ap, sym, ◌∙◌, subst, arith}
use Rattle.lotos_base.specs.Equation.{Data}
use Rattle.lotos_base.specs.Term.{Term}
use Rattle.behaviour_semantics.specs.Derives.{leaves_in}
use Rattle.behaviour_tree.specs.BehaviourTerms.{offer_profiles, profiles_of}
use Rattle.behaviour_tree.specs.BehaviourView.{terms_of}
use Rattle.behaviour_tree.specs.Over.{AreTermsOf}
use Rattle.behaviour_tree.specs.declared.behaviours.Offer.{Offer}
use Rattle.draft_parts.proofs.HandedOn.{keeps_both}
use Rattle.step_parts.proofs.OfferLemmas.{asked_count, asked_split, numbered_turn, offered_from, rest_is, terms_turn}
use Rattle.step_parts.proofs.offers.offered.Goals as goal

pub push_offered-requires-clause-term : goal.push_offered-requires-clause-term
push_offered-requires-clause-term g c =
    subst (λ (d : Data). AreTermsOf d.signature (offer_profiles c.offer-item.result)) (sym c.loop-offer.invariant.same_known.same_data)
    (terms_turn c.deref-offer-items.result.now c.loop-offer.offer-index c.offer-item.result c.loop-offer-test.true c.offer-item.is
    offer_profiles (g.D.Deciding.known_data c.args.data.now).signature c.loop-offer.invariant.left).0

pub push_offered-requires-clause-leaves : goal.push_offered-requires-clause-leaves
push_offered-requires-clause-leaves g c =
    subst (λ (d : Data). AreTermsOf d.signature (profiles_of c.args.leaves.now)) (sym c.loop-offer.invariant.same_known.same_data)
    c.requires.leaves

pub push_offered-requires-clause-enough : goal.push_offered-requires-clause-enough
push_offered-requires-clause-enough g c =
    let whole : asked_count (drop c.loop-offer.offer-index c.deref-offer-items.result.now) ≡ asked_count (c.offer-item.result ∷ []) +
    asked_count (drop (c.loop-offer.offer-index + 1) c.deref-offer-items.result.now) =
    ap asked_count (rest_is c.deref-offer-items.result.now c.loop-offer.offer-index c.offer-item.result c.loop-offer-test.true
    c.offer-item.is) ∙ asked_split c.offer-item.result (drop (c.loop-offer.offer-index + 1) c.deref-offer-items.result.now) in
    omega (arith, whole, c.loop-offer.invariant.enough)

pub loop-offer-preserved : goal.loop-offer-preserved
loop-offer-preserved g c = record {
  same = numbered_turn c.deref-offer-items.result.now c.loop-offer.offer-index c.offer-item.result c.loop-offer-test.true c.offer-item.is
      (offered_from (g.D.Deciding.canon c.args.data.now) (leaves_in (terms_of c.args.leaves.now))) c.loop-offer.next c.in_ok-next.next
      (terms_of c.loop-offer.values.items) (terms_of c.push_offered.new.values.items) _
      (subst (λ (canon : Term → Term). (rest : List Offer) → terms_of c.push_offered.new.values.items
      ++ offered_from canon (leaves_in (terms_of c.args.leaves.now)) c.in_ok-next.next rest
      ≡ terms_of c.loop-offer.values.items ++ offered_from canon (leaves_in (terms_of c.args.leaves.now)) c.loop-offer.next
      (c.offer-item.result ∷ rest))
      c.loop-offer.invariant.same_known.same_canon c.in_ok-next.ensures.same) c.loop-offer.invariant.same;
  over = subst (λ (d : Data). AreTermsOf d.signature (profiles_of c.loop-offer.values.items)
      → AreTermsOf d.signature (profiles_of c.push_offered.new.values.items)) c.loop-offer.invariant.same_known.same_data
      c.in_ok-next.ensures.over c.loop-offer.invariant.over;
  left = (terms_turn c.deref-offer-items.result.now c.loop-offer.offer-index c.offer-item.result c.loop-offer-test.true c.offer-item.is
      offer_profiles (g.D.Deciding.known_data c.args.data.now).signature c.loop-offer.invariant.left).1;
  enough = let whole : asked_count (drop c.loop-offer.offer-index c.deref-offer-items.result.now) ≡ asked_count (c.offer-item.result ∷ [])
      + asked_count (drop (c.loop-offer.offer-index + 1) c.deref-offer-items.result.now) =
      ap asked_count (rest_is c.deref-offer-items.result.now c.loop-offer.offer-index c.offer-item.result c.loop-offer-test.true
      c.offer-item.is) ∙ asked_split c.offer-item.result (drop (c.loop-offer.offer-index + 1) c.deref-offer-items.result.now) in
      omega (arith, whole, c.in_ok-next.ensures.next, c.loop-offer.invariant.enough);
  same_known = keeps_both c.loop-offer.invariant.same_known c.push_offered.ensures.same_known;
}
