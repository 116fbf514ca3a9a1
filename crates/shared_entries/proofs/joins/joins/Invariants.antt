use Rattle.std.proofs.Common.{[], map, drop}
use Rattle.behaviour_semantics.specs.WellFormed.{Every}
use Rattle.behaviour_tree.specs.BehaviourView.{meet_of}
use Rattle.event_offers.specs.Keeping.{KeepsData}
use Rattle.shared_entries.specs.PartMenus.{joins}
use Rattle.shared_entries.specs.Items.{HasItemTerms, IsItemOver, plain_item}
use Rattle.shared_entries.proofs.SolvedLemmas.{IsHalfSolved}
use Rattle.shared_entries.proofs.joins.joins.Given as goal

abbrev pub invariant-loop-left : goal.invariant-loop-left
invariant-loop-left g l = record {
  half : IsHalfSolved (g.D.Deciding.canon l.fn.decider) [] l.made.items
      (joins (g.D.Deciding.known_data l.fn.decider) (meet_of l.meet)
      (map plain_item (drop l.left-index l.left-items)) (map plain_item l.rights.items))
      (joins (g.D.Deciding.known_data l.fn.decider) (meet_of l.meet) (map plain_item l.left-items) (map plain_item l.rights.items));
  terms : Every (HasItemTerms (g.D.Deciding.known_data l.fn.decider).signature) l.made.items;
  left : Every (IsItemOver (g.D.Deciding.known_data l.fn.decider).signature) (drop l.left-index l.left-items);
  same_known : KeepsData g.D.Deciding.known_data g.D.Deciding.canon l.fn.decider l.decider;
}
