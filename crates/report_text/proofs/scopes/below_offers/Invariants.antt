use Rattle.std.proofs.Common.{◌≡◌, ◌++◌, map, drop}
use Rattle.behaviour_semantics.specs.Behaviour.{asked_variables}
use Rattle.behaviour_tree.specs.BehaviourView.{offer_of, variables_of}
use Rattle.report_text.proofs.scopes.below_offers.Given as goal

abbrev pub invariant-loop-offer : goal.invariant-loop-offer
invariant-loop-offer l =
    variables_of l.made.items ++ asked_variables (map offer_of (drop l.offer-index l.offer-items))
    ≡ asked_variables (map offer_of l.offer-items)
