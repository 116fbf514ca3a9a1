use Rattle.std.proofs.Common.{◌≡◌, ◌<◌, ◌+◌, length, arith}
use Rattle.lotos_base.specs.Equation.{Data}
use Rattle.lotos_base.specs.Term.{Term}
use Rattle.session_histories.specs.Replay.{LineRefusal, LineComesTo, StateComesTo, StatedLinesComeTo, first_line, goes_on, stops, ReplayRefusal}
use Rattle.session_histories.specs.TraceLine.{lines_of}
use Rattle.menu_builder.proofs.HandedOn.{held_before, holds_after, keeps_both}
use Rattle.session_log.specs.CourseView.{basis_over, progress_of}
use Rattle.session_log.specs.Kept.{AreSuited, IsKeptCourse}
use Rattle.session_log.specs.RefusalView.{IsInLine, TellsReplay}
use Rattle.session_log.specs.Replayed.{IsGroundOver}
use Rattle.session_log.proofs.ReplayLemmas.{both_done, stated_ended, step_refused_at, state_refused_at}
use Rattle.lotos_base.proofs.Options.{gave_up}
use Rattle.session_log.proofs.replaying.replay_stated.Goals as goal

pub replay_at-requires-clause-suited : goal.replay_at-requires-clause-suited
replay_at-requires-clause-suited g c =
    holds_after (λ (d : Data) (k : Term → Term). AreSuited g.M.MenuMaker.suits d k c.args.base.now.spec.now
    c.args.base.now.ranks.now c.loop-rest.maker) c.loop-rest.invariant.same_known
    c.loop-rest.invariant.suited

pub replay_at-requires-clause-over : goal.replay_at-requires-clause-over
replay_at-requires-clause-over g c =
    holds_after (λ (d : Data) (k : Term → Term). IsGroundOver d.signature c.args.base.now) c.loop-rest.invariant.same_known c.requires.over

pub replay_at-requires-clause-kept : goal.replay_at-requires-clause-kept
replay_at-requires-clause-kept g c =
    holds_after (λ (d : Data) (k : Term → Term). IsKeptCourse d k c.args.base.now.spec.now c.loop-rest.course)
    c.loop-rest.invariant.same_known c.loop-rest.invariant.kept

pub state_at-requires : goal.state_at-requires
state_at-requires g c = c.in_ok-replay_at.ensures.kept_after.state.closed

pub loop-rest-preserved : goal.loop-rest-preserved
loop-rest-preserved g c =
    let known = g.D.Deciding.known_data c.args.data.now in
    let canon = g.D.Deciding.canon c.args.data.now in
    let spec = c.args.base.now.spec.now in
    let same = c.loop-rest.invariant.same_known in
    let some : 0 < length c.loop-rest.rest.now = omega (arith, c.in-len1-up.len_at_least) in
    record {
      suited = held_before (λ (d : Data) (k : Term → Term). AreSuited g.M.MenuMaker.suits d k spec
          c.args.base.now.ranks.now c.replay_at.new.maker) same c.in_ok-replay_at.ensures.suited_after;
      kept = held_before (λ (d : Data) (k : Term → Term). IsKeptCourse d k spec c.replay_at.new.course) same
          c.in_ok-replay_at.ensures.kept_after;
      same_known = keeps_both same c.in_ok-replay_at.ensures.same_known;
      counted = omega (arith, c.loop-rest.invariant.counted);
      short = omega (arith, c.loop-rest.invariant.short, c.first_line-cut.ensures.shorter some, c.in_ok-rest.ensures.shorter);
      decides = both_done (basis_over known canon spec) (c.loop-rest.number + 1) (c.loop-rest.number + 2 + 1)
          (progress_of c.loop-rest.course) (progress_of c.replay_at.new.course) c.first_line-cut.result.0.now c.loop-rest.rest.now
          c.first_line-cut.result.1.now c.in_ok-rest.rest.now
          (StatedLinesComeTo (basis_over known canon spec) 2 (progress_of c.args.course.now) (lines_of c.args.steps.now))
          (omega arith) c.loop-rest.invariant.decides (c.first_line-cut.ensures.line some)
          (held_before (λ (d : Data) (k : Term → Term). LineComesTo (basis_over d k spec) (progress_of c.loop-rest.course)
          c.first_line-cut.result.0.now (goes_on (progress_of c.replay_at.new.course))) same
          c.in_ok-replay_at.ensures.answered)
          (c.in_ok-rest.ensures.answered known canon c.requires.over);
    }

pub returns-in_err-replay_at-clause-answered : goal.returns-in_err-replay_at-clause-answered
returns-in_err-replay_at-clause-answered g c =
    let known = g.D.Deciding.known_data c.args.data.now in
    let canon = g.D.Deciding.canon c.args.data.now in
    let spec = c.args.base.now.spec.now in
    let some : 0 < length c.loop-rest.rest.now = omega (arith, c.in-len1-up.len_at_least) in
    gave_up
    (λ _. StatedLinesComeTo (basis_over known canon spec) 2 (progress_of c.args.course.now) (lines_of c.args.steps.now)
    (goes_on (progress_of c.replay_at.new.course)))
    (TellsReplay (λ (why : ReplayRefusal). StatedLinesComeTo (basis_over known canon spec) 2 (progress_of c.args.course.now)
    (lines_of c.args.steps.now) (stops why))) c.from_residual.result c.in_err-replay_at.field-0.0 c.from_residual.ensures.1
    (step_refused_at (basis_over known canon spec) (c.loop-rest.number + 1) (progress_of c.loop-rest.course) c.first_line-cut.result.0.now
    c.loop-rest.rest.now c.first_line-cut.result.1.now
    (StatedLinesComeTo (basis_over known canon spec) 2 (progress_of c.args.course.now) (lines_of c.args.steps.now))
    c.loop-rest.invariant.decides (c.first_line-cut.ensures.line some) c.in_err-replay_at.field-0.0
    (held_before (λ (d : Data) (k : Term → Term). TellsReplay (IsInLine (c.loop-rest.number + 1) (λ (why : LineRefusal).
    LineComesTo (basis_over d k spec) (progress_of c.loop-rest.course) c.first_line-cut.result.0.now (stops why)))
    c.in_err-replay_at.field-0.0) c.loop-rest.invariant.same_known
    c.in_err-replay_at.ensures.answered))

pub returns-in_err-rest-clause-answered : goal.returns-in_err-rest-clause-answered
returns-in_err-rest-clause-answered g c =
    let known = g.D.Deciding.known_data c.args.data.now in
    let canon = g.D.Deciding.canon c.args.data.now in
    let spec = c.args.base.now.spec.now in
    let some : 0 < length c.loop-rest.rest.now = omega (arith, c.in-len1-up.len_at_least) in
    gave_up
    (λ _. StatedLinesComeTo (basis_over known canon spec) 2 (progress_of c.args.course.now) (lines_of c.args.steps.now)
    (goes_on (progress_of c.replay_at.new.course)))
    (TellsReplay (λ (why : ReplayRefusal). StatedLinesComeTo (basis_over known canon spec) 2 (progress_of c.args.course.now)
    (lines_of c.args.steps.now) (stops why))) c.from_residual-in_err-rest.result c.in_err-rest.field-0.0
    c.from_residual-in_err-rest.ensures.1
    (state_refused_at (basis_over known canon spec) (c.loop-rest.number + 1) (c.loop-rest.number + 2)
    (progress_of c.loop-rest.course) (progress_of c.replay_at.new.course) c.first_line-cut.result.0.now c.loop-rest.rest.now
    c.first_line-cut.result.1.now
    (StatedLinesComeTo (basis_over known canon spec) 2 (progress_of c.args.course.now) (lines_of c.args.steps.now)) (omega arith)
    c.loop-rest.invariant.decides (c.first_line-cut.ensures.line some)
    (held_before (λ (d : Data) (k : Term → Term). LineComesTo (basis_over d k spec) (progress_of c.loop-rest.course)
    c.first_line-cut.result.0.now (goes_on (progress_of c.replay_at.new.course))) c.loop-rest.invariant.same_known
    c.in_ok-replay_at.ensures.answered) c.in_err-rest.field-0.0
    (c.in_err-rest.ensures.answered known canon c.requires.over))

pub returns-in_err-rest-clause-suited_after : goal.returns-in_err-rest-clause-suited_after
returns-in_err-rest-clause-suited_after g c =
    held_before (λ (d : Data) (k : Term → Term). AreSuited g.M.MenuMaker.suits d k c.args.base.now.spec.now c.args.base.now.ranks.now
    c.replay_at.new.maker) c.loop-rest.invariant.same_known c.in_ok-replay_at.ensures.suited_after

pub returns-in_err-replay_at-clause-suited_after : goal.returns-in_err-replay_at-clause-suited_after
returns-in_err-replay_at-clause-suited_after g c =
    held_before (λ (d : Data) (k : Term → Term). AreSuited g.M.MenuMaker.suits d k c.args.base.now.spec.now c.args.base.now.ranks.now
    c.replay_at.new.maker) c.loop-rest.invariant.same_known c.in_err-replay_at.ensures.suited_after

pub returns-clause-answered : goal.returns-clause-answered
returns-clause-answered g c =
    let known = g.D.Deciding.known_data c.args.data.now in
    let canon = g.D.Deciding.canon c.args.data.now in
    stated_ended (basis_over known canon c.args.base.now.spec.now) (c.loop-rest.number + 1) (progress_of c.loop-rest.course)
    c.loop-rest.rest.now
    (StatedLinesComeTo (basis_over known canon c.args.base.now.spec.now) 2 (progress_of c.args.course.now) (lines_of c.args.steps.now))
    c.loop-rest.invariant.decides (omega arith)
