use Rattle.std.proofs.Common.{◌≡◌, map, drop}
use Rattle.behaviour_semantics.specs.Behaviour.{asked_variables}
use Rattle.behaviour_tree.specs.BehaviourView.{offer_of}
use Rattle.behaviour_instances.proofs.environments.asks_nothing.Given as goal

abbrev pub invariant-loop-offer : goal.invariant-loop-offer
invariant-loop-offer l =
    asked_variables (map offer_of (drop l.offer-index l.offer-items)) ≡ asked_variables (map offer_of l.offer-items)
