use Rattle.std.proofs.Common.{◌≡◌, drop}
use Rattle.behaviour_semantics.specs.Solving.{has_closed}
use Rattle.event_offers.specs.OfferView.{conditions_of}
use Rattle.draft_solving.proofs.replacements.has_closed.Given as goal

abbrev pub invariant-loop-condition : goal.invariant-loop-condition
invariant-loop-condition l = has_closed (conditions_of (drop l.condition-index l.condition-items)) ≡ has_closed (conditions_of
    l.condition-items)
