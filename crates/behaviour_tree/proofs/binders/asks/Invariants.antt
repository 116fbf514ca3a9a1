use Rattle.std.proofs.Common.{◌≡◌, drop, map}
use Rattle.behaviour_semantics.specs.Behaviour.{asked_variables, numbers_of}
use Rattle.behaviour_tree.specs.BehaviourView.{offer_of}
use Rattle.lotos_base.specs.Substitution.{is_listed}
use Rattle.behaviour_tree.proofs.binders.asks.Given as goal

abbrev pub invariant-loop-offer : goal.invariant-loop-offer
invariant-loop-offer l =
    is_listed (numbers_of (asked_variables (map offer_of l.offer-items))) l.number
    ≡ is_listed (numbers_of (asked_variables (map offer_of (drop l.offer-index l.offer-items)))) l.number
