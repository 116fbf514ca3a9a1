use Rattle.std.proofs.Common.{drop, map}
use Rattle.behaviour_tree.specs.BehaviourTerms.{offer_profiles, joined}
use Rattle.behaviour_tree.specs.BehaviourView.{offer_of}
use Rattle.behaviour_tree.specs.Over.{AreTermsOf}
use Rattle.sort_terms.specs.ReaderView.{signature_read}
use Rattle.syntax_trees.specs.TreeViews.{written_offer_of as written_offer}
use Rattle.scope_parts.specs.Terms.{OffersFollow}
use Rattle.scope_parts.specs.VisibleView.{visible_in}
use Rattle.scope_parts.proofs.AnswerLemmas.{Leads}
use Rattle.scope_parts.proofs.terms.Terms.following_offers.Given as goal

abbrev pub invariant-loop-text : goal.invariant-loop-text
invariant-loop-text l = record {
  leads :
      Leads (OffersFollow (signature_read l.self.reader) (visible_in l.visible) l.first (map written_offer l.text-items))
      (λ xs. OffersFollow (signature_read l.self.reader) (visible_in l.visible) l.number (map written_offer xs))
      (drop l.text-index l.text-items)
      (map offer_of l.made.items);
  terms : AreTermsOf (signature_read l.self.reader) (joined (map offer_profiles l.made.items));
}
