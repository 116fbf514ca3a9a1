use Rattle.std.proofs.Common.{◌≤◌, ℕ, [], ◌∷◌, length, map, drop}
use Rattle.lotos_base.specs.Signature.{Signature}
use Rattle.behaviour_semantics.specs.Behaviour.{Specification}
use Rattle.behaviour_semantics.specs.Label.{under}
use Rattle.behaviour_semantics.specs.WellFormed.{IsClosedBehaviour}
use Rattle.behaviour_tree.specs.BehaviourTerms.{profiles_in}
use Rattle.behaviour_tree.specs.BehaviourView.{behaviour_of, meet_of}
use Rattle.behaviour_tree.specs.Over.{AreTermsOf}
use Rattle.step_parts.specs.Beside.{HasClosedRest, StandsBeside, rest_profiles}
use Rattle.step_parts.proofs.targets.side_by_side.Given as goal

abbrev pub invariant-loop-at : goal.invariant-loop-at
invariant-loop-at l = record {
  within : l.at ≤ length l.gates.items;
  same : StandsBeside (meet_of l.meet) l.rest
      (map (λ (a : ℕ). under (behaviour_of l.body.value) ((l.formal, a) ∷ [])) (drop l.at l.gates.items));
  terms : (signature : Signature) → AreTermsOf signature (profiles_in l.body.value) → AreTermsOf signature (rest_profiles l.rest);
  closed_parts : (signature : Signature) (specification : Specification)
      → IsClosedBehaviour signature specification (behaviour_of l.body.value) → HasClosedRest l.rest;
}

abbrev pub decreases-loop-at : goal.decreases-loop-at
decreases-loop-at l = l.at
