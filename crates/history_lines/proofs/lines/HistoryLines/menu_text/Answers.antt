use Rattle.std.proofs.lemmas.Result.{IfOk-weaker}
use Rattle.sort_terms.specs.EquationView.{data_of}
use Rattle.sort_terms.specs.SignatureView.{signature_of}
use Rattle.history_lines.proofs.TextLemmas.{menu_here}
use Rattle.history_lines.proofs.lines.HistoryLines.menu_text.Goals as goal

pub returns : goal.returns
returns g c =
    IfOk-weaker c.menu_lines.result _ _
    (λ line is.
    menu_here (signature_of c.args.self.now.signature.now) (data_of c.args.self.now.book.flat).signature c.spec.result.now
    c.args.self.now.session.spec c.menu.result.now c.args.self.now.session.course.menu c.requires.serving.shown c.spec.ensures
    c.menu.ensures line.items is)
    c.menu_lines.ensures
