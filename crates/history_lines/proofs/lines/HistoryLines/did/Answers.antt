use Rattle.std.proofs.lemmas.Result.{IfOk-weaker}
use Rattle.sort_terms.specs.EquationView.{data_of}
use Rattle.sort_terms.specs.SignatureView.{signature_of}
use Rattle.session_log.specs.HandedOn.{label_of}
use Rattle.history_lines.proofs.TextLemmas.{did_here}
use Rattle.history_lines.proofs.lines.HistoryLines.did.Goals as goal

pub returns : goal.returns
returns g c =
    IfOk-weaker c.did_line.result _ _
    (λ line is.
    did_here (signature_of c.args.self.now.signature.now) (data_of c.args.self.now.book.flat).signature c.spec.result.now
    c.args.self.now.session.spec c.menu.result.now c.args.self.now.session.course.menu c.requires.serving.shown c.spec.ensures
    c.menu.ensures (label_of c.args.label.now) line.items is)
    c.did_line.ensures
