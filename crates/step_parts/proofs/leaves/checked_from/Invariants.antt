use Rattle.std.proofs.Common.{◌≡◌}
use Rattle.lotos_base.specs.Signature.{Signature}
use Rattle.behaviour_tree.specs.BehaviourTerms.{profiles_of}
use Rattle.behaviour_tree.specs.Over.{AreTermsOf}
use Rattle.step_parts.proofs.LeafLemmas.{wrong_at}
use Rattle.step_parts.proofs.leaves.checked_from.Given as goal

abbrev pub invariant-loop-i : goal.invariant-loop-i
invariant-loop-i l =
    (signature : Signature) → AreTermsOf signature (profiles_of l.leaves)
    → wrong_at signature l.leaves l.first l.sorts l.i ≡ wrong_at signature l.leaves l.first l.sorts 0
