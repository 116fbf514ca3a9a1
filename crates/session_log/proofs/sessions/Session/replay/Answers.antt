use Rattle.std.proofs.Common.{length, refl, ap, sym, ◌∙◌, subst}
use Rattle.std.proofs.lemmas.List.{length-map}
use Rattle.lotos_base.specs.Equation.{Data}
use Rattle.lotos_base.specs.Term.{Term}
use Rattle.behaviour_tree.specs.StateView.{state_of}
use Rattle.session_histories.specs.Replay.{goes_on}
use Rattle.menu_builder.proofs.HandedOn.{held_before, holds_after}
use Rattle.session_log.specs.CourseView.{past_of, progress_of}
use Rattle.session_log.specs.Kept.{AreSuited, IsKeptCourse, IsKeptState}
use Rattle.session_log.proofs.CourseLemmas.{copied_kept, first_kept, same_beginning}
use Rattle.session_log.proofs.ReplayLemmas.{replayed_here, replay_told_here}
use Rattle.lotos_base.proofs.Options.{gave_up}
use Rattle.session_log.proofs.sessions.Session.replay.Goals as goal

pub open-requires-clause-kept : goal.open-requires-clause-kept
open-requires-clause-kept g c =
    let known = g.D.Deciding.known_data c.args.data.now in
    let spec = c.args.self.now.spec in
    copied_kept known.signature spec c.first_state.result.now c.in_ok-first.first c.in_ok-first.ensures.same c.in_ok-first.ensures.terms
    c.in_ok-first.ensures.closed (subst (IsKeptState known.signature spec) (sym c.first_state.ensures)
    (first_kept known (g.D.Deciding.canon c.args.data.now) spec c.args.self.now.course c.requires.lawful.course))

pub replay_text-requires-clause-suited : goal.replay_text-requires-clause-suited
replay_text-requires-clause-suited g c =
    holds_after (λ (d : Data) (k : Term → Term). AreSuited g.M.MenuMaker.suits d k c.args.self.now.spec c.args.self.now.ranks
    c.open.new.maker) c.in_ok-course.ensures.same_known c.in_ok-course.ensures.suited_after

pub replay_text-requires-clause-over : goal.replay_text-requires-clause-over
replay_text-requires-clause-over g c = record {
  printed = c.requires.signature ∙ ap (λ (d : Data). d.signature) (sym c.in_ok-course.ensures.same_known.same_data);
  read = c.in_ok-reader.ensures
      ∙ (c.requires.signature ∙ ap (λ (d : Data). d.signature) (sym c.in_ok-course.ensures.same_known.same_data));
}

pub replay_text-requires-clause-kept : goal.replay_text-requires-clause-kept
replay_text-requires-clause-kept g c =
    holds_after (λ (d : Data) (k : Term → Term). IsKeptCourse d k c.args.self.now.spec c.in_ok-course.course)
    c.in_ok-course.ensures.same_known c.in_ok-course.ensures.kept_after

pub returns-in_err-replay_text-clause-answered : goal.returns-in_err-replay_text-clause-answered
returns-in_err-replay_text-clause-answered g c =
    let known = g.D.Deciding.known_data c.args.data.now in
    let canon = g.D.Deciding.canon c.args.data.now in
    let spec = c.args.self.now.spec in
    gave_up _ _ c.from_residual-in_err-replay_text.result c.in_err-replay_text.field-0.0 c.from_residual-in_err-replay_text.ensures.1 (
      refl,
      replay_told_here known _ canon _ spec c.args.self.now.course c.in_ok-course.course c.args.text.now
          c.in_ok-course.ensures.same_known.same_data c.in_ok-course.ensures.same_known.same_canon
          (same_beginning known canon spec c.args.self.now.course c.in_ok-course.course c.requires.lawful.course
          c.in_ok-course.ensures.kept_after
          (ap state_of c.in_ok-course.ensures.begins.0 ∙ (c.in_ok-first.ensures.same ∙ ap state_of c.first_state.ensures)))
          c.in_err-replay_text.field-0.0 c.in_err-replay_text.ensures.answered,
    )

pub returns-in_err-replay_text-clause-lawful_after : goal.returns-in_err-replay_text-clause-lawful_after
returns-in_err-replay_text-clause-lawful_after g c = record {
  suited = held_before (λ (d : Data) (k : Term → Term). AreSuited g.M.MenuMaker.suits d k c.args.self.now.spec c.args.self.now.ranks
      c.replay_text.new.maker) c.in_ok-course.ensures.same_known c.in_err-replay_text.ensures.suited_after;
  course = c.requires.lawful.course;
}

pub returns-clause-answered : goal.returns-clause-answered
returns-clause-answered g c =
    let known = g.D.Deciding.known_data c.args.data.now in
    let canon = g.D.Deciding.canon c.args.data.now in
    let spec = c.args.self.now.spec in (
      replayed_here known _ canon _ spec c.args.self.now.course c.in_ok-course.course c.args.text.now
          c.in_ok-course.ensures.same_known.same_data c.in_ok-course.ensures.same_known.same_canon
          (same_beginning known canon spec c.args.self.now.course c.in_ok-course.course c.requires.lawful.course
          c.in_ok-course.ensures.kept_after
          (ap state_of c.in_ok-course.ensures.begins.0 ∙ (c.in_ok-first.ensures.same ∙ ap state_of c.first_state.ensures)))
          (goes_on (progress_of c.replay_text.new.course)) c.in_ok-replay_text.ensures.answered,
      ap length c.history-count.ensures ∙ sym (length-map c.replay_text.new.course.history.items past_of),
    )

pub returns-clause-lawful_after : goal.returns-clause-lawful_after
returns-clause-lawful_after g c = record {
  suited = held_before (λ (d : Data) (k : Term → Term). AreSuited g.M.MenuMaker.suits d k c.args.self.now.spec c.args.self.now.ranks
      c.replay_text.new.maker) c.in_ok-course.ensures.same_known c.in_ok-replay_text.ensures.suited_after;
  course = held_before (λ (d : Data) (k : Term → Term). IsKeptCourse d k c.args.self.now.spec c.replay_text.new.course)
      c.in_ok-course.ensures.same_known c.in_ok-replay_text.ensures.kept_after;
}
