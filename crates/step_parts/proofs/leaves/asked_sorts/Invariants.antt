use Rattle.std.proofs.Common.{◌≡◌, ◌++◌, map, drop}
use Rattle.behaviour_semantics.specs.Behaviour.{asked_variables, sorts_of}
use Rattle.behaviour_tree.specs.BehaviourView.{offer_of}
use Rattle.step_parts.proofs.leaves.asked_sorts.Given as goal

abbrev pub invariant-loop-offer : goal.invariant-loop-offer
invariant-loop-offer l =
    l.sorts.items ++ sorts_of (asked_variables (map offer_of (drop l.offer-index l.offer-items)))
    ≡ sorts_of (asked_variables (map offer_of l.offer-items))
