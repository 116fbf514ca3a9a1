use Rattle.std.proofs.Common.{◌≡◌, ◌≤◌, length, subst}
use Rattle.std.specs.Prelude.{MatchResult}
use Rattle.lotos_base.specs.Signature.{Signature}
use Rattle.session_log.specs.HandedOn.{specification_of, trace_text}
use Rattle.session_log.specs.CourseView.{progress_of}
use Rattle.session_log.specs.RefusalView.{TellsLength}
use Rattle.session_log.proofs.CourseLemmas.{closed_states}
use Rattle.history_lines.specs.ShelfAnswer.{trace_limit}
use Rattle.history_lines.proofs.lines.HistoryLines.short_trace.Goals as goal

pub trace_within-requires : goal.trace_within-requires
trace_within-requires g c = closed_states _ _ _ c.args.self.now.session.course c.requires.serving.lawful.course

pub returns : goal.returns
returns g c =
    let spec = specification_of c.args.self.now.session.spec in
    let progress = progress_of c.args.self.now.session.course in
    subst (λ (it : Signature). MatchResult c.trace_within.result
    (λ text. (text.items ≡ trace_text it spec progress) × (length text.items ≤ trace_limit))
    (TellsLength trace_limit (length (trace_text it spec progress)))) c.requires.serving.shown c.trace_within.ensures
