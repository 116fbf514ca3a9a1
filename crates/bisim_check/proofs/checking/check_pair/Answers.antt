use Rattle.std.proofs.Common.{map}
use Rattle.std.proofs.lemmas.Result.{MatchResult-weaker}
use Rattle.lotos_base.specs.Equation.{Data}
use Rattle.lotos_base.specs.Term.{Term}
use Rattle.behaviour_tree.specs.DefinitionView.{specification_of}
use Rattle.certificate_theory.specs.MatchedPairs.{PairFails}
use Rattle.menu_builder.proofs.HandedOn.{held_before, holds_after}
use Rattle.menu_builder.specs.Menus.{entries_in}
use Rattle.bisim_check.specs.Events.{event_of, IsUnanswered}
use Rattle.bisim_check.specs.Faults.{TellsPairs}
use Rattle.bisim_check.specs.Matching.{AreEvents, ListedTowards}
use Rattle.std.specs.Prelude.{false, true}
use Rattle.bisim_check.specs.Readings.{comparison_of, pair_among, listed_pairs_in}
use Rattle.bisim_check.specs.Surveys.{IsSideOf, IsSurveyed, behaviour_in, side_over}
use Rattle.bisim_check.proofs.PairLemmas.{within_states, closed_at, surveyed_at, all_placed, IsEventful, pair_matched, pair_fails_left, pair_fails_right}
use Rattle.lotos_base.proofs.Options.{gave_up}
use Rattle.bisim_check.proofs.SurveyLemmas.{told}
use Rattle.bisim_check.proofs.checking.check_pair.Goals as goal

pub state_at-one-requires : goal.state_at-one-requires
state_at-one-requires g c = within_states c.args.reading.now.lefts.items c.args.listed.now.left c.requires.listed.left

pub state_at-other-requires : goal.state_at-other-requires
state_at-other-requires g c = within_states c.args.reading.now.rights.items c.args.listed.now.right c.requires.listed.right

pub events-requires-clause-surveyed : goal.events-requires-clause-surveyed
events-requires-clause-surveyed g c =
    surveyed_at (g.D.Deciding.known_data c.args.data.now) (g.D.Deciding.canon c.args.data.now) c.args.left.now
    c.args.reading.now.lefts.items c.args.listed.now.left c.state_at-one.result.now c.requires.kept.lefts c.state_at-one.ensures

pub events-requires-clause-closed : goal.events-requires-clause-closed
events-requires-clause-closed g c =
    closed_at c.args.reading.now.lefts.items c.args.listed.now.left c.state_at-one.result.now c.requires.listed.left
    c.state_at-one.ensures

pub events-requires-2-clause-side : goal.events-requires-2-clause-side
events-requires-2-clause-side g c =
    holds_after (λ (d : Data) (k : Term → Term). IsSideOf d.signature c.args.right.now) c.in_ok-moves.ensures.same_known
    c.requires.right

pub events-requires-2-clause-surveyed : goal.events-requires-2-clause-surveyed
events-requires-2-clause-surveyed g c =
    holds_after (λ (d : Data) (k : Term → Term). IsSurveyed d k c.args.right.now c.state_at-other.result.now)
    c.in_ok-moves.ensures.same_known
    (surveyed_at (g.D.Deciding.known_data c.args.data.now) (g.D.Deciding.canon c.args.data.now) c.args.right.now
    c.args.reading.now.rights.items c.args.listed.now.right c.state_at-other.result.now c.requires.kept.rights
    c.state_at-other.ensures)

pub events-requires-2-clause-closed : goal.events-requires-2-clause-closed
events-requires-2-clause-closed g c =
    closed_at c.args.reading.now.rights.items c.args.listed.now.right c.state_at-other.result.now c.requires.listed.right
    c.state_at-other.ensures

pub check_events-requires : goal.check_events-requires
check_events-requires g c = record {
  placed = all_placed (g.D.Deciding.known_data c.args.data.now) (g.D.Deciding.canon c.args.data.now) c.args.left.now c.args.right.now
      c.args.reading.now c.requires.kept;
  filed = c.requires.indexed;
}

pub check_events-requires-2 : goal.check_events-requires-2
check_events-requires-2 g c = record {
  placed = all_placed (g.D.Deciding.known_data c.args.data.now) (g.D.Deciding.canon c.args.data.now) c.args.left.now c.args.right.now
      c.args.reading.now c.requires.kept;
  filed = c.requires.indexed;
}

pub returns-in_err-check_events-clause-matched : goal.returns-in_err-check_events-clause-matched
returns-in_err-check_events-clause-matched g c = λ b d.
    let known = g.D.Deciding.known_data c.args.data.now in
    let canon = g.D.Deciding.canon c.args.data.now in
    let left = c.args.left.now in
    let right = c.args.right.now in
    let reading = c.args.reading.now in
    let listed = c.args.listed.now in
    let one = c.state_at-one.result.now in
    let other = c.state_at-other.result.now in
    let moves = map event_of c.in_ok-moves.moves.items in
    let answers = map event_of c.in_ok-answers.answers.items in
    let pair = pair_among reading.lefts.items reading.rights.items listed in
    gave_up _ (TellsPairs (PairFails (comparison_of known canon left right b d) (listed_pairs_in reading) pair))
    c.from_residual-in_err-check_events.result c.in_err-check_events.field-0.0 c.from_residual-in_err-check_events.ensures.1
    (told (IsUnanswered (specification_of left) (specification_of right) (ListedTowards false (listed_pairs_in reading)) false
    listed.line moves
    answers) (PairFails (comparison_of known canon left right b d) (listed_pairs_in reading) pair) c.in_err-check_events.field-0.0
    (pair_fails_left c.closed_entries_are_events.ensures c.closed_labels_agree_where_identical.ensures known canon
    (g.met.D.Deciding.is_canon c.args.data.now) c.requires.sides left right b d reading listed (listed_pairs_in reading) one other
    c.state_at-one.ensures c.state_at-other.ensures moves answers
    (record {
      side = c.requires.left;
      surveyed_ = surveyed_at known canon left reading.lefts.items listed.left one c.requires.kept.lefts c.state_at-one.ensures;
      closed = closed_at reading.lefts.items listed.left one c.requires.listed.left c.state_at-one.ensures;
      events_ = c.in_ok-moves.ensures.events;
    })
    (record {
      side = c.requires.right;
      surveyed_ = surveyed_at known canon right reading.rights.items listed.right other c.requires.kept.rights c.state_at-other.ensures;
      closed = closed_at reading.rights.items listed.right other c.requires.listed.right c.state_at-other.ensures;
      events_ = held_before (λ (e : Data) (k : Term → Term). AreEvents (side_over e k right) (behaviour_in other)
          (entries_in other.menu) answers) c.in_ok-moves.ensures.same_known c.in_ok-answers.ensures.events;
    })) c.in_err-check_events.ensures)

pub returns-clause-matched : goal.returns-clause-matched
returns-clause-matched g c = λ b d.
    let known = g.D.Deciding.known_data c.args.data.now in
    let canon = g.D.Deciding.canon c.args.data.now in
    let left = c.args.left.now in
    let right = c.args.right.now in
    let reading = c.args.reading.now in
    let listed = c.args.listed.now in
    let one = c.state_at-one.result.now in
    let other = c.state_at-other.result.now in
    let moves = map event_of c.in_ok-moves.moves.items in
    let answers = map event_of c.in_ok-answers.answers.items in
    let pair = pair_among reading.lefts.items reading.rights.items listed in
    let here : IsEventful known canon left one moves = record {
      side = c.requires.left;
      surveyed_ = surveyed_at known canon left reading.lefts.items listed.left one c.requires.kept.lefts c.state_at-one.ensures;
      closed = closed_at reading.lefts.items listed.left one c.requires.listed.left c.state_at-one.ensures;
      events_ = c.in_ok-moves.ensures.events;
    } in
    let there : IsEventful known canon right other answers = record {
      side = c.requires.right;
      surveyed_ = surveyed_at known canon right reading.rights.items listed.right other c.requires.kept.rights c.state_at-other.ensures;
      closed = closed_at reading.rights.items listed.right other c.requires.listed.right c.state_at-other.ensures;
      events_ = held_before (λ (e : Data) (k : Term → Term). AreEvents (side_over e k right) (behaviour_in other)
          (entries_in other.menu) answers) c.in_ok-moves.ensures.same_known c.in_ok-answers.ensures.events;
    } in
    MatchResult-weaker c.check_events-2.result c.check_events-2.ensures
    (λ _ back. pair_matched c.closed_entries_are_events.ensures c.closed_labels_agree_where_identical.ensures known canon
    (g.met.D.Deciding.is_canon c.args.data.now) c.requires.sides left right b d reading listed (listed_pairs_in reading) one other
    c.state_at-one.ensures c.state_at-other.ensures moves answers here there c.in_ok-check_events.ensures back)
    (λ f h. told (IsUnanswered (specification_of right) (specification_of left) (ListedTowards true (listed_pairs_in reading))
    true listed.line
    answers moves) (PairFails (comparison_of known canon left right b d) (listed_pairs_in reading) pair) f
    (pair_fails_right c.closed_entries_are_events.ensures c.closed_labels_agree_where_identical.ensures known canon
    (g.met.D.Deciding.is_canon c.args.data.now) c.requires.sides left right b d reading listed (listed_pairs_in reading) one other
    c.state_at-one.ensures c.state_at-other.ensures moves answers here there c.in_ok-check_events.ensures) h)
