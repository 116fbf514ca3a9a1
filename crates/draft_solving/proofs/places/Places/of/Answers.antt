use Rattle.std.proofs.Common.{◌≤◌, length, ◌∙◌, arith}
use Rattle.std.proofs.lemmas.List.{length-map}
use Rattle.event_offers.specs.OfferView.{condition_of, conditions_of}
use Rattle.draft_solving.proofs.PlaceLemmas.{condition_at, noted_up_to_all, noted_up_to_next}
use Rattle.draft_solving.proofs.places.Places.of.Goals as goal

pub loop-i-preserved : goal.loop-i-preserved
loop-i-preserved c = (
  c.in_ok-note_sides.ensures.kept.size ∙ c.loop-i.invariant.0,
  noted_up_to_next c.loop-i.places c.note_sides.new.self (conditions_of c.args.conditions.now.items) c.loop-i.i
      (condition_of c.index.result.now)
      (condition_at c.args.conditions.now.items c.loop-i.i c.index.result.now (omega arith) c.index.ensures)
      c.in_ok-note_sides.ensures.kept c.in_ok-note_sides.ensures.noted c.loop-i.invariant.1,
)

pub returns-clause-noted : goal.returns-clause-noted
returns-clause-noted c =
    let past : length (conditions_of c.args.conditions.now.items) ≤ c.loop-i.i =
    omega (arith, length-map c.args.conditions.now.items condition_of) in
    noted_up_to_all c.loop-i.places (conditions_of c.args.conditions.now.items) c.loop-i.i past c.loop-i.invariant.1
