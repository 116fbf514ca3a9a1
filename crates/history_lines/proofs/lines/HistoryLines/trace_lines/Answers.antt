use Rattle.session_log.specs.HandedOn.{specification_of, trace_text}
use Rattle.sort_terms.specs.EquationView.{data_of}
use Rattle.sort_terms.specs.SignatureView.{signature_of}
use Rattle.session_log.specs.CourseView.{progress_of}
use Rattle.session_log.proofs.CourseLemmas.{closed_states}
use Rattle.history_lines.proofs.TextLemmas.{over_data}
use Rattle.history_lines.proofs.lines.HistoryLines.trace_lines.Goals as goal

pub trace-requires : goal.trace-requires
trace-requires g c = closed_states _ _ _ c.args.self.now.session.course c.requires.serving.lawful.course

pub returns : goal.returns
returns g c =
    over_data
    (λ signature. trace_text signature (specification_of c.args.self.now.session.spec) (progress_of c.args.self.now.session.course))
    (signature_of c.args.self.now.signature.now) (data_of c.args.self.now.book.flat).signature c.new-text.result.items
    c.trace.new.into.items c.requires.serving.shown c.new-text.ensures.items c.in_ok-trace.ensures
