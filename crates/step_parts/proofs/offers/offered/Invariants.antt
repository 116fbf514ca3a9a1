use Rattle.std.proofs.Common.{◌≡◌, ◌≤◌, ◌+◌, ◌++◌, drop, length, map}
use Rattle.behaviour_semantics.specs.Derives.{leaves_in}
use Rattle.behaviour_tree.specs.BehaviourTerms.{joined, offer_profiles, profiles_of}
use Rattle.behaviour_tree.specs.BehaviourView.{terms_of}
use Rattle.behaviour_tree.specs.Over.{AreTermsOf}
use Rattle.draft_parts.specs.HandedOn.{KeepsData}
use Rattle.step_parts.proofs.OfferLemmas.{asked_count, offered_from}
use Rattle.step_parts.proofs.offers.offered.Given as goal

abbrev pub invariant-loop-offer : goal.invariant-loop-offer
invariant-loop-offer g l = record {
  same : terms_of l.values.items ++ offered_from (g.D.Deciding.canon l.fn.data) (leaves_in (terms_of l.leaves)) l.next (drop l.offer-index
      l.offer-items)
      ≡ offered_from (g.D.Deciding.canon l.fn.data) (leaves_in (terms_of l.leaves)) l.fn.first l.offer-items;
  over : AreTermsOf (g.D.Deciding.known_data l.fn.data).signature (profiles_of l.values.items);
  left : AreTermsOf (g.D.Deciding.known_data l.fn.data).signature (joined (map offer_profiles (drop l.offer-index l.offer-items)));
  enough : l.next + asked_count (drop l.offer-index l.offer-items) ≤ length l.leaves;
  same_known : KeepsData g.D.Deciding.known_data g.D.Deciding.canon l.fn.data l.data;
}
