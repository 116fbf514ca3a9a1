use Rattle.std.proofs.Common.{refl, sym, ◌∙◌, arith}
use Rattle.std.proofs.lemmas.List.{length-map}
use Rattle.lotos_base.proofs.Members.{at_map, read_member}
use Rattle.std.specs.Prelude.{map}
use Rattle.behaviour_tree.specs.DefinitionView.{specification_of}
use Rattle.bisim_check.specs.Events.{event_of}
use Rattle.bisim_check.specs.Matching.{IsAnswer, ListedTowards}
use Rattle.bisim_check.specs.Readings.{listed_pairs_in}
use Rattle.bisim_check.proofs.AnswerLemmas.{place_within, none_below_next}
use Rattle.bisim_check.proofs.DataLemmas.{never}
use Rattle.bisim_check.proofs.matching.has_answer.Goals as goal

pub returns-then-is_answer : goal.returns-then-is_answer
returns-then-is_answer c =
    let answers = c.args.answers.now.items in
    let found = c.index.result.now in (
      (λ _. record {
        place = c.loop-position.position;
        answer = event_of found;
        there = at_map event_of answers c.loop-position.position found
            (read_member answers c.loop-position.position found (omega arith) c.index.ensures);
        is = c.is_answer.ensures.0 c.if-is_answer.true;
      }),
      (λ _. refl),
    )

pub loop-position-preserved : goal.loop-position-preserved
loop-position-preserved c =
    let answers = c.args.answers.now.items in
    let found = c.index.result.now in
    none_below_next (IsAnswer (specification_of c.args.one.now) (specification_of c.args.other.now)
    (ListedTowards c.args.right (listed_pairs_in c.args.reading.now)) (event_of c.args.event.now)) (map event_of answers)
    c.loop-position.position
    (event_of found)
    (at_map event_of answers c.loop-position.position found
    (read_member answers c.loop-position.position found (omega arith) c.index.ensures))
    c.loop-position.invariant (λ h. never (sym c.if-is_answer.false ∙ c.is_answer.ensures.1 h))

pub returns : goal.returns
returns c = (
  (λ h. absurd (never h)),
  (λ has. absurd (c.loop-position.invariant has.place has.answer
      (omega (
        arith,
        place_within (map event_of c.args.answers.now.items) has.place has.answer has.there,
        length-map c.args.answers.now.items event_of,
        c.args.answers.now.ok.0,
      )) has.there has.is)),
)
