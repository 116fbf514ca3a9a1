use Rattle.std.proofs.Common.{ℕ, ◌+◌, ◌∷◌, [], map, drop, refl, ap, sym, ◌∙◌, subst}
use Rattle.std.proofs.lemmas.List.{map-append}
use Rattle.behaviour_tree.specs.BehaviourTerms.{offer_profiles, joined}
use Rattle.behaviour_tree.specs.BehaviourView.{offer_of}
use Rattle.behaviour_tree.specs.Over.{AreTermsOf}
use Rattle.sort_terms.specs.ReaderView.{signature_read}
use Rattle.syntax_trees.specs.TreeViews.{written_offer_of as written_offer}
use Rattle.scope_parts.specs.FaultView.{FaultIs}
use Rattle.scope_parts.specs.Resolution.{resolved, faulty}
use Rattle.scope_parts.specs.Terms.{OfferIs, OffersFollow, past_offer}
use Rattle.scope_parts.specs.VisibleView.{visible_in}
use Rattle.scope_parts.proofs.AnswerLemmas.{Leads, question_start, question_step, question_fault, question_end, err_is}
use Rattle.scope_parts.proofs.ProfileLemmas.{terms_more}
use Rattle.scope_parts.proofs.terms.Terms.following_offers.Goals as goal

pub loop-text-init : goal.loop-text-init
loop-text-init c = record {
  leads =
      question_start
      (OffersFollow (signature_read c.args.self.now.reader) (visible_in c.args.visible.now) c.args.first
      (map written_offer c.deref-text-items.result.now))
      (λ xs. OffersFollow (signature_read c.args.self.now.reader) (visible_in c.args.visible.now) c.args.first (map written_offer xs))
      c.deref-text-items.result.now (map offer_of c.in_ok-made.made.items) (ap (map offer_of) c.in_ok-made.ensures.items)
      (λ o here. here);
  terms =
      subst (λ xs. AreTermsOf (signature_read c.args.self.now.reader) (joined (map offer_profiles xs))) (sym c.in_ok-made.ensures.items) tt;
}

pub loop-text-preserved : goal.loop-text-preserved
loop-text-preserved c = record {
  leads =
      subst
      (λ (n : ℕ). Leads
      (OffersFollow (signature_read c.args.self.now.reader) (visible_in c.args.visible.now) c.args.first
      (map written_offer c.deref-text-items.result.now))
      (λ xs. OffersFollow (signature_read c.args.self.now.reader) (visible_in c.args.visible.now) n (map written_offer xs))
      (drop (c.loop-text.text-index + 1) c.deref-text-items.result.now) (map offer_of c.push.new.self.items))
      (sym c.in_ok-number.ensures)
      (question_step
      (OffersFollow (signature_read c.args.self.now.reader) (visible_in c.args.visible.now) c.args.first
      (map written_offer c.deref-text-items.result.now))
      (λ xs. OffersFollow (signature_read c.args.self.now.reader) (visible_in c.args.visible.now) c.loop-text.number (map written_offer xs))
      (λ xs. OffersFollow (signature_read c.args.self.now.reader) (visible_in c.args.visible.now)
      (past_offer (written_offer c.text-item.result) c.loop-text.number) (map written_offer xs))
      (OfferIs (signature_read c.args.self.now.reader) (visible_in c.args.visible.now) c.loop-text.number
      (written_offer c.text-item.result))
      (λ y. y) c.deref-text-items.result.now c.loop-text.text-index c.text-item.result (map offer_of c.loop-text.made.items)
      (map offer_of c.push.new.self.items) (offer_of c.in_ok-offer.offer) (λ xs o then. then) c.loop-text-test.true c.text-item.is
      c.loop-text.invariant.leads c.in_ok-offer.ensures.read
      (ap (map offer_of) c.in_ok-push.ensures.items ∙ map-append offer_of c.loop-text.made.items (c.in_ok-offer.offer ∷ [])));
  terms =
      terms_more (signature_read c.args.self.now.reader) (map offer_profiles c.loop-text.made.items)
      (map offer_profiles c.push.new.self.items) (offer_profiles c.in_ok-offer.offer) c.loop-text.invariant.terms
      c.in_ok-offer.ensures.profiles
      (ap (map offer_profiles) c.in_ok-push.ensures.items ∙ map-append offer_profiles c.loop-text.made.items (c.in_ok-offer.offer ∷ []));
}

pub returns-in_err-offer-clause-read : goal.returns-in_err-offer-clause-read
returns-in_err-offer-clause-read c =
    err_is _ c.from_residual-in_err-offer.result c.in_err-offer.field-0.0 _ c.from_residual-in_err-offer.ensures.1
    (subst
    (λ xs. FaultIs c.in_err-offer.field-0.0
    (λ g. OffersFollow (signature_read c.args.self.now.reader) (visible_in c.args.visible.now) c.args.first (map written_offer xs)
    (faulty g)))
    c.deref-text-items.ensures.value
    (question_fault
    (OffersFollow (signature_read c.args.self.now.reader) (visible_in c.args.visible.now) c.args.first
    (map written_offer c.deref-text-items.result.now))
    (λ xs. OffersFollow (signature_read c.args.self.now.reader) (visible_in c.args.visible.now) c.loop-text.number (map written_offer xs))
    (λ xs. OffersFollow (signature_read c.args.self.now.reader) (visible_in c.args.visible.now)
    (past_offer (written_offer c.text-item.result) c.loop-text.number) (map written_offer xs))
    (OfferIs (signature_read c.args.self.now.reader) (visible_in c.args.visible.now) c.loop-text.number (written_offer c.text-item.result))
    (λ y. y) c.deref-text-items.result.now c.loop-text.text-index c.text-item.result (map offer_of c.loop-text.made.items)
    c.in_err-offer.field-0.0 (λ xs o then. then) c.loop-text-test.true c.text-item.is c.loop-text.invariant.leads
    c.in_err-offer.ensures.read))

pub returns-clause-read : goal.returns-clause-read
returns-clause-read c =
    subst
    (λ xs. OffersFollow (signature_read c.args.self.now.reader) (visible_in c.args.visible.now) c.args.first (map written_offer xs)
    (resolved (map offer_of c.loop-text.made.items)))
    c.deref-text-items.ensures.value
    (question_end
    (OffersFollow (signature_read c.args.self.now.reader) (visible_in c.args.visible.now) c.args.first
    (map written_offer c.deref-text-items.result.now))
    (λ xs. OffersFollow (signature_read c.args.self.now.reader) (visible_in c.args.visible.now) c.loop-text.number (map written_offer xs))
    refl c.deref-text-items.result.now c.loop-text.text-index (map offer_of c.loop-text.made.items) c.loop-text-test.false
    c.loop-text.invariant.leads)
