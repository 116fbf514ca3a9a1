use Rattle.std.proofs.Common.{arith}
use Rattle.lotos_base.proofs.Options.{gave_up}
use Rattle.history_lines.specs.LinesView.{point_of}
use Rattle.history_lines.proofs.ServedLemmas.{serves_line}
use Rattle.history_lines.proofs.serving.HistoryLinesLines.serve.Goals as goal

pub serve-requires-clause-short : goal.serve-requires-clause-short
serve-requires-clause-short g c = omega (arith, c.requires.plain.short)

pub returns-clause-served : goal.returns-clause-served
returns-clause-served g c =
    serves_line
    (point_of c.args.self.now (g.F.Shelf.state c.args.shelf.now))
    (point_of c.serve.new.lines (g.F.Shelf.state c.serve.new.shelf)) c.args.line.now c.new-text.result.items _ c.in_ok-served.served
    c.new-text.ensures.items c.in_ok-served.ensures.answered c.ends.ensures

pub returns-in_err-served-clause-served : goal.returns-in_err-served-clause-served
returns-in_err-served-clause-served g c =
    gave_up _ _ c.from_residual.result c.in_err-served.field-0.0 c.from_residual.ensures.1 c.in_err-served.ensures.answered.leaves
