use Rattle.std.proofs.Common.{◌≤◌, length, sym, arith}
use Rattle.std.proofs.lemmas.Result.{MatchResult-weaker}
use Rattle.lotos_base.specs.Name.{spelling}
use Rattle.sort_terms.specs.ReadingOutcome.{one_name}
use Rattle.session_histories.specs.Replay.{LinesComeTo, ComeBehindName, ReplayIs, ReplayRefusal, goes_on, stops}
use Rattle.session_histories.specs.TraceLine.{lines_of}
use Rattle.session_log.specs.CourseView.{basis_over, progress_of, situation_of}
use Rattle.session_log.proofs.ReplayLemmas.{bad_heading, faults_told, replayed_behind, named_behind}
use Rattle.session_log.proofs.replaying.replay_text.Goals as goal

pub returns-in-NoHeading-clause-answered : goal.returns-in-NoHeading-clause-answered
returns-in-NoHeading-clause-answered g c =
    bad_heading (basis_over (g.D.Deciding.known_data c.args.data.now) (g.D.Deciding.canon c.args.data.now) c.args.base.now.spec.now)
    (situation_of c.args.course.now.state c.args.course.now.menu) c.args.text.now c.first_line-head.result.0.now
    c.first_line-head.result.1.now c.first_line-head.ensures.line (sym c.in-NoHeading.ensures.says)

pub returns-in-OfSteps-clause-answered : goal.returns-in-OfSteps-clause-answered
returns-in-OfSteps-clause-answered g c =
    let basis = basis_over (g.D.Deciding.known_data c.args.data.now) (g.D.Deciding.canon c.args.data.now) c.args.base.now.spec.now in
    let first = situation_of c.args.course.now.state c.args.course.now.menu in
    let within : length c.first_line-head.result.0.now ≤ length c.args.text.now = omega (arith, c.first_line-head.ensures.within) in
    let behind = replayed_behind basis c.args.course.now c.args.text.now c.first_line-head.result.0.now c.first_line-head.result.1.now
    c.first_line-head.ensures.line within (sym c.in-OfSteps.ensures.says) c.requires.opened in
    MatchResult-weaker c.replay_steps.result c.replay_steps.ensures.answered (λ _ h. behind (goes_on (progress_of c.replay_steps.new.course)) h)
    (λ fault h. faults_told
    (λ (why : ReplayRefusal). LinesComeTo basis 2 (progress_of c.args.course.now) (lines_of c.first_line-head.result.1.now) (stops why))
    (λ (why : ReplayRefusal). ReplayIs basis first c.args.text.now (stops why)) (λ why k. behind (stops why) k) fault h)

pub returns-in-OfStates-clause-answered : goal.returns-in-OfStates-clause-answered
returns-in-OfStates-clause-answered g c =
    let basis = basis_over (g.D.Deciding.known_data c.args.data.now) (g.D.Deciding.canon c.args.data.now) c.args.base.now.spec.now in
    let first = situation_of c.args.course.now.state c.args.course.now.menu in
    let name = c.in-OfStates.name.now in
    let within : length c.first_line-head.result.0.now ≤ length c.args.text.now = omega (arith, c.first_line-head.ensures.within) in
    let behind = named_behind basis c.args.course.now c.args.text.now c.first_line-head.result.0.now c.first_line-head.result.1.now name
    c.first_line-head.ensures.line within (sym c.in-OfStates.ensures.says) c.requires.opened in
    MatchResult-weaker c.replay_named.result c.replay_named.ensures.answered (λ _ h. behind (goes_on (progress_of c.replay_named.new.course)) h)
    (λ fault h. faults_told
    (λ (why : ReplayRefusal). ComeBehindName basis first (one_name name (spelling c.args.base.now.spec.now.name)) name
    (lines_of c.first_line-head.result.1.now) (stops why))
    (λ (why : ReplayRefusal). ReplayIs basis first c.args.text.now (stops why)) (λ why k. behind (stops why) k) fault h)
