use Rattle.event_offers.specs.OfferView.{conditions_of}
use Rattle.draft_solving.specs.Conditions.{GiveNoneBefore}
use Rattle.draft_solving.proofs.replacements.next_place.Given as goal

abbrev pub invariant-loop-place : goal.invariant-loop-place
invariant-loop-place l =
    GiveNoneBefore l.from (conditions_of l.conditions.items) → GiveNoneBefore l.place (conditions_of l.conditions.items)
