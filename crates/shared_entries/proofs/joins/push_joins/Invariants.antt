use Rattle.std.proofs.Common.{map, drop}
use Rattle.behaviour_semantics.specs.WellFormed.{Every}
use Rattle.behaviour_tree.specs.BehaviourView.{meet_of}
use Rattle.event_offers.specs.Keeping.{KeepsData}
use Rattle.shared_entries.specs.PartMenus.{joins_of}
use Rattle.shared_entries.specs.Items.{HasItemTerms, IsItemOver, plain_item}
use Rattle.shared_entries.proofs.SolvedLemmas.{IsHalfSolved}
use Rattle.shared_entries.proofs.joins.push_joins.Given as goal

abbrev pub invariant-loop-right : goal.invariant-loop-right
invariant-loop-right g l = record {
  half : IsHalfSolved (g.D.Deciding.canon l.fn.decider) l.fn.items.items l.items.items
      (joins_of (g.D.Deciding.known_data l.fn.decider) (meet_of l.meet) (plain_item l.left)
      (map plain_item (drop l.right-index l.right-items)))
      (joins_of (g.D.Deciding.known_data l.fn.decider) (meet_of l.meet) (plain_item l.left) (map plain_item l.right-items));
  terms : Every (HasItemTerms (g.D.Deciding.known_data l.fn.decider).signature) l.fn.items.items
      → Every (HasItemTerms (g.D.Deciding.known_data l.fn.decider).signature) l.items.items;
  left : Every (IsItemOver (g.D.Deciding.known_data l.fn.decider).signature) (drop l.right-index l.right-items);
  same_known : KeepsData g.D.Deciding.known_data g.D.Deciding.canon l.fn.decider l.decider;
}
