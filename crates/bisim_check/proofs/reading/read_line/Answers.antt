use Rattle.std.proofs.Common.{ℕ, List, MatchOption, subst, arith}
use Rattle.bisim_check.specs.LineTexts.{IsNoLine, IsWritten}
use Rattle.bisim_check.specs.LineView.{line_of}
use Rattle.bisim_check.specs.declared.lines.PairLine.{PairLine}
use Rattle.bisim_check.proofs.LineReadings.{whole_line}
use Rattle.bisim_check.proofs.reading.read_line.Goals as goal

pub returns : goal.returns
returns c =
    let line = c.args.line.now in
    subst (λ (it : List ℕ). MatchOption c.line_of_kind.result (IsNoLine it) (λ (read : PairLine). IsWritten it (line_of read)))
    (whole_line line (omega arith) (omega arith)) c.line_of_kind.ensures
