use Rattle.std.proofs.Common.{◌≡◌, ◌≤◌, ◌+◌, ◌++◌, drop, length, map}
use Rattle.behaviour_semantics.specs.Derives.{leaves_in}
use Rattle.behaviour_tree.specs.BehaviourView.{terms_of}
use Rattle.behaviour_tree.specs.Over.{AreTermsOf}
use Rattle.behaviour_tree.specs.StateView.{environment_of, pair_profile}
use Rattle.draft_parts.specs.HandedOn.{KeepsData}
use Rattle.step_parts.proofs.OfferLemmas.{asked_count, paired_from}
use Rattle.step_parts.proofs.offers.asked_values.Given as goal

abbrev pub invariant-loop-offer : goal.invariant-loop-offer
invariant-loop-offer g l = record {
  same : environment_of l.pairs.items ++ paired_from (g.D.Deciding.canon l.fn.data) (leaves_in (terms_of l.leaves)) l.next (drop
      l.offer-index l.offer-items)
      ≡ paired_from (g.D.Deciding.canon l.fn.data) (leaves_in (terms_of l.leaves)) l.fn.first l.offer-items;
  over : AreTermsOf (g.D.Deciding.known_data l.fn.data).signature (map pair_profile l.pairs.items);
  enough : l.next + asked_count (drop l.offer-index l.offer-items) ≤ length l.leaves;
  same_known : KeepsData g.D.Deciding.known_data g.D.Deciding.canon l.fn.data l.data;
}
