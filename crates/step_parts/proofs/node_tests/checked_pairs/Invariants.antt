use Rattle.std.proofs.Common.{◌≡◌, drop}
use Rattle.behaviour_semantics.specs.Fault.{first_unmet}
use Rattle.behaviour_semantics.specs.Rule.{pairwise}
use Rattle.behaviour_tree.specs.BehaviourTerms.{profiles_of}
use Rattle.behaviour_tree.specs.BehaviourView.{terms_of}
use Rattle.behaviour_tree.specs.Over.{AreTermsOf}
use Rattle.draft_parts.specs.HandedOn.{KeepsData}
use Rattle.step_parts.proofs.node_tests.checked_pairs.Given as goal

abbrev pub invariant-loop-i : goal.invariant-loop-i
invariant-loop-i g l = record {
  same : first_unmet (g.D.Deciding.canon l.fn.data) (pairwise (terms_of (drop l.i l.left)) (terms_of (drop l.i l.right)))
      ≡ first_unmet (g.D.Deciding.canon l.fn.data) (pairwise (terms_of l.left) (terms_of l.right));
  left : AreTermsOf (g.D.Deciding.known_data l.fn.data).signature (profiles_of (drop l.i l.left));
  right : AreTermsOf (g.D.Deciding.known_data l.fn.data).signature (profiles_of (drop l.i l.right));
  same_known : KeepsData g.D.Deciding.known_data g.D.Deciding.canon l.fn.data l.data;
}
