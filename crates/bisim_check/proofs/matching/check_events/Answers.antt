use Rattle.std.proofs.Common.{◌+◌, refl, sym, ◌∙◌, arith, add-one}
use Rattle.std.proofs.lemmas.List.{length-map}
use Rattle.lotos_base.proofs.Members.{at_map, read_member}
use Rattle.std.specs.Prelude.{map}
use Rattle.behaviour_tree.specs.DefinitionView.{specification_of}
use Rattle.bisim_check.specs.Events.{event_of}
use Rattle.bisim_check.specs.Matching.{HasAnswer, ListedTowards}
use Rattle.bisim_check.specs.Readings.{listed_pairs_in}
use Rattle.bisim_check.proofs.AnswerLemmas.{place_within, each_below_next}
use Rattle.bisim_check.proofs.DataLemmas.{never}
use Rattle.bisim_check.proofs.matching.check_events.Goals as goal

pub returns-then-not-has_answer : goal.returns-then-not-has_answer
returns-then-not-has_answer c =
    let events = c.args.events.now.items in
    let found = c.index.result.now in
    record {
      number = c.loop-position.position + 1;
      is = refl;
      first = record {
        place = c.loop-position.position;
        numbered = add-one c.loop-position.position;
        event = event_of found;
        there = at_map event_of events c.loop-position.position found
            (read_member events c.loop-position.position found (omega arith) c.index.ensures);
        unanswered = λ h. never (sym c.if-not-has_answer.true ∙ c.has_answer.ensures.1 h);
        earlier = c.loop-position.invariant;
      };
    }

pub loop-position-preserved : goal.loop-position-preserved
loop-position-preserved c =
    let events = c.args.events.now.items in
    let found = c.index.result.now in
    each_below_next (HasAnswer (specification_of c.args.one.now) (specification_of c.args.other.now)
    (ListedTowards c.args.right (listed_pairs_in c.args.reading.now)) (map event_of c.args.answers.now.items)) (map event_of events)
    c.loop-position.position (event_of found)
    (at_map event_of events c.loop-position.position found
    (read_member events c.loop-position.position found (omega arith) c.index.ensures))
    c.loop-position.invariant (c.has_answer.ensures.0 c.if-not-has_answer.false)

pub returns : goal.returns
returns c = λ place event there. c.loop-position.invariant place event
    (omega (
      arith,
      place_within (map event_of c.args.events.now.items) place event there,
      length-map c.args.events.now.items event_of,
      c.args.events.now.ok.0,
    )) there
