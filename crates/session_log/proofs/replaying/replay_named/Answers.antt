use Rattle.std.proofs.Common.{◌≡◌, sym, ◌∙◌, subst}
use Rattle.std.proofs.lemmas.Result.{MatchResult-weaker}
use Rattle.lotos_base.specs.Name.{spelling}
use Rattle.sort_terms.specs.ReadingOutcome.{one_name}
use Rattle.session_histories.specs.Replay.{ComeBehindName, StatedLinesComeTo, ReplayRefusal, other_specification, goes_on, stops}
use Rattle.session_histories.specs.TraceLine.{lines_of}
use Rattle.session_log.specs.CourseView.{basis_over, progress_of, situation_of}
use Rattle.session_log.proofs.ReplayLemmas.{faults_told, stated_behind, other_behind}
use Rattle.session_log.proofs.replaying.replay_named.Goals as goal

pub returns-then-not-is_named-clause-answered : goal.returns-then-not-is_named-clause-answered
returns-then-not-is_named-clause-answered g c =
    let basis = basis_over (g.D.Deciding.known_data c.args.data.now) (g.D.Deciding.canon c.args.data.now) c.args.base.now.spec.now in
    let first = situation_of c.args.course.now.state c.args.course.now.menu in
    let name = c.args.name.now in
    let lines = lines_of c.args.steps.now in
    let Comes = λ (why : ReplayRefusal). ComeBehindName basis first (one_name name (spelling c.args.base.now.spec.now.name)) name lines
    (stops why) in
    faults_told (λ (why : ReplayRefusal). why ≡ other_specification name) Comes
    (λ why same. subst Comes (sym same)
    (other_behind basis first name lines (sym c.is_named.ensures ∙ c.if-not-is_named.true)))
    c.in_ok-other_specification.field-0 c.in_ok-other_specification.ensures

pub returns-clause-answered : goal.returns-clause-answered
returns-clause-answered g c =
    let basis = basis_over (g.D.Deciding.known_data c.args.data.now) (g.D.Deciding.canon c.args.data.now) c.args.base.now.spec.now in
    let name = c.args.name.now in
    let behind = stated_behind basis c.args.course.now c.args.steps.now name (sym c.is_named.ensures ∙ c.if-not-is_named.false)
    c.requires.opened in
    MatchResult-weaker c.replay_stated.result c.replay_stated.ensures.answered
    (λ _ h. behind (goes_on (progress_of c.replay_stated.new.course)) h)
    (λ fault h. faults_told
    (λ (why : ReplayRefusal). StatedLinesComeTo basis 2 (progress_of c.args.course.now) (lines_of c.args.steps.now) (stops why))
    (λ (why : ReplayRefusal). ComeBehindName basis (situation_of c.args.course.now.state c.args.course.now.menu)
    (one_name name (spelling c.args.base.now.spec.now.name)) name (lines_of c.args.steps.now) (stops why))
    (λ why k. behind (stops why) k) fault h)
