use Rattle.std.proofs.Common.{◌≡◌, ◌++◌, map, drop}
use Rattle.behaviour_semantics.specs.Behaviour.{asked_variables, numbers_of}
use Rattle.behaviour_tree.specs.BehaviourView.{offer_of}
use Rattle.behaviour_instances.proofs.environments.below_action.Given as goal

abbrev pub invariant-loop-offer : goal.invariant-loop-offer
invariant-loop-offer l =
    l.numbers.items ++ numbers_of (asked_variables (map offer_of (drop l.offer-index l.offer-items)))
    ≡ numbers_of (asked_variables (map offer_of l.offer-items))
