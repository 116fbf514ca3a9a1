use Rattle.std.proofs.Common.{◌≡◌, ◌++◌, drop, map}
use Rattle.behaviour_tree.specs.BehaviourTerms.{let_profile}
use Rattle.behaviour_tree.specs.Over.{AreTermsOf}
use Rattle.behaviour_tree.specs.StateView.{environment_of, pair_profile}
use Rattle.draft_parts.specs.HandedOn.{KeepsData}
use Rattle.step_parts.proofs.OfferLemmas.{let_paired}
use Rattle.step_parts.proofs.offers.let_values.Given as goal

abbrev pub invariant-loop-binding : goal.invariant-loop-binding
invariant-loop-binding g l = record {
  same : environment_of l.pairs.items ++ let_paired (g.D.Deciding.canon l.fn.data) (drop l.binding-index l.binding-items)
      ≡ let_paired (g.D.Deciding.canon l.fn.data) l.binding-items;
  over : AreTermsOf (g.D.Deciding.known_data l.fn.data).signature (map pair_profile l.pairs.items);
  left : AreTermsOf (g.D.Deciding.known_data l.fn.data).signature (map let_profile (drop l.binding-index l.binding-items));
  same_known : KeepsData g.D.Deciding.known_data g.D.Deciding.canon l.fn.data l.data;
}
