use Rattle.bisim_check.proofs.LineReadings.{no_two}
use Rattle.bisim_check.proofs.Results.{gave_none}
use Rattle.bisim_check.proofs.reading.line_of_kind.Goals as goal

pub returns-in_err-two : goal.returns-in_err-two
returns-in_err-two c =
    gave_none _ _ c.from_residual.result c.from_residual.ensures (no_two c.args.kind c.args.numbers.now c.in_err-two.ensures)
