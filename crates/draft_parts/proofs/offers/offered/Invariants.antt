use Rattle.std.proofs.Common.{◌≡◌, ◌++◌, drop}
use Rattle.lotos_base.specs.Substitution.{binding}
use Rattle.term_match.specs.SubstView.{profiled_pairs}
use Rattle.behaviour_tree.specs.BehaviourTerms.{profiles_of}
use Rattle.behaviour_tree.specs.BehaviourView.{terms_of}
use Rattle.behaviour_tree.specs.Over.{AreTermsOf}
use Rattle.behaviour_tree.specs.StateView.{environment_of}
use Rattle.event_offers.specs.Keeping.{KeepsData}
use Rattle.draft_parts.specs.Environments.{AreOffersReady}
use Rattle.draft_parts.specs.Offered.{offered_at}
use Rattle.draft_parts.proofs.offers.offered.Given as goal

abbrev pub invariant-loop-offer : goal.invariant-loop-offer
invariant-loop-offer g l = record {
  same : terms_of l.made.items ++ offered_at (g.D.Deciding.canon l.fn.decider) (binding (environment_of l.environment.items)) l.number
      (drop l.offer-index l.offer-items)
      ≡ offered_at (g.D.Deciding.canon l.fn.decider) (binding (environment_of l.environment.items)) l.fn.first l.offer-items;
  over : AreTermsOf (g.D.Deciding.known_data l.fn.decider).signature (profiles_of l.made.items);
  left : AreOffersReady (g.D.Deciding.known_data l.fn.decider).signature (profiled_pairs l.environment.items)
      (drop l.offer-index l.offer-items);
  same_known : KeepsData g.D.Deciding.known_data g.D.Deciding.canon l.fn.decider l.decider;
}
