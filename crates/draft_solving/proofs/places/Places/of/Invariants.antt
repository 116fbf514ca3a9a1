use Rattle.std.proofs.Common.{◌≡◌}
use Rattle.event_offers.specs.OfferView.{conditions_of}
use Rattle.draft_solving.specs.Standing.{room}
use Rattle.draft_solving.proofs.PlaceLemmas.{AreNotedUpTo}
use Rattle.draft_solving.proofs.places.Places.of.Given as goal

abbrev pub invariant-loop-i : goal.invariant-loop-i
invariant-loop-i l = (room l.places ≡ l.count) × AreNotedUpTo l.i l.places (conditions_of l.conditions.items)
