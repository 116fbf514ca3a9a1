use Rattle.std.proofs.Common.{◌≡◌, ◌++◌, drop, map}
use Rattle.behaviour_tree.specs.BehaviourTerms.{profiles_of}
use Rattle.behaviour_tree.specs.Over.{AreTermsOf}
use Rattle.behaviour_tree.specs.StateView.{environment_of, pair_profile}
use Rattle.draft_parts.specs.HandedOn.{KeepsData}
use Rattle.step_parts.proofs.OfferLemmas.{call_paired}
use Rattle.step_parts.proofs.offers.call_values.Given as goal

abbrev pub invariant-loop-i : goal.invariant-loop-i
invariant-loop-i g l = record {
  same : environment_of l.pairs.items
      ++ call_paired (g.D.Deciding.canon l.fn.data) (drop l.i l.parameters.items) (drop l.i l.values.items)
      ≡ call_paired (g.D.Deciding.canon l.fn.data) l.parameters.items l.values.items;
  over : AreTermsOf (g.D.Deciding.known_data l.fn.data).signature (map pair_profile l.pairs.items);
  left : AreTermsOf (g.D.Deciding.known_data l.fn.data).signature (profiles_of (drop l.i l.values.items));
  same_known : KeepsData g.D.Deciding.known_data g.D.Deciding.canon l.fn.data l.data;
}
