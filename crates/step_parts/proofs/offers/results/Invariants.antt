use Rattle.std.proofs.Common.{◌≡◌, ◌≤◌, ◌+◌, ◌++◌, drop, length, map}
use Rattle.behaviour_semantics.specs.Derives.{leaves_in}
use Rattle.behaviour_tree.specs.BehaviourTerms.{exit_profiles, joined, profiles_of}
use Rattle.behaviour_tree.specs.BehaviourView.{terms_of}
use Rattle.behaviour_tree.specs.Over.{AreTermsOf}
use Rattle.draft_parts.specs.HandedOn.{KeepsData}
use Rattle.step_parts.proofs.OfferLemmas.{open_count, results_from}
use Rattle.step_parts.proofs.offers.results.Given as goal

abbrev pub invariant-loop-value : goal.invariant-loop-value
invariant-loop-value g l = record {
  same : terms_of l.made.items ++ results_from (g.D.Deciding.canon l.fn.data) (leaves_in (terms_of l.leaves)) l.next (drop l.value-index
      l.value-items)
      ≡ results_from (g.D.Deciding.canon l.fn.data) (leaves_in (terms_of l.leaves)) l.fn.first l.value-items;
  over : AreTermsOf (g.D.Deciding.known_data l.fn.data).signature (profiles_of l.made.items);
  left : AreTermsOf (g.D.Deciding.known_data l.fn.data).signature (joined (map exit_profiles (drop l.value-index l.value-items)));
  enough : l.next + open_count (drop l.value-index l.value-items) ≤ length l.leaves;
  same_known : KeepsData g.D.Deciding.known_data g.D.Deciding.canon l.fn.data l.data;
}
