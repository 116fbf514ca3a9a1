use Rattle.session_histories.specs.Replay.{LineRefusal, LineComesTo, stops}
use Rattle.session_log.specs.CourseView.{basis_over, progress_of}
use Rattle.session_log.proofs.ReplayLemmas.{told_as}
use Rattle.session_log.proofs.replaying.replay_at.Goals as goal

pub returns-in-Err-clause-answered : goal.returns-in-Err-clause-answered
returns-in-Err-clause-answered g c =
    told_as (λ (why : LineRefusal). LineComesTo
    (basis_over (g.D.Deciding.known_data c.args.data.now) (g.D.Deciding.canon c.args.data.now) c.args.base.now.spec.now)
    (progress_of c.args.course.now) c.args.line.now (stops why)) c.args.number c.in-Err.fault c.at.result c.at.ensures
    c.in-Err.ensures.answered
