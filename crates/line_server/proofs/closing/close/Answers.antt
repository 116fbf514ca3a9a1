use Rattle.line_server.specs.Turn.{closed, broken_off}
use Rattle.line_server.proofs.closing.close.Goals as goal

pub returns-in-Ok : goal.returns-in-Ok
returns-in-Ok g c = closed c.in-Ok.ensures.written c.in-Ok.ensures.counts

pub returns-in-Err : goal.returns-in-Err
returns-in-Err g c = broken_off c.in-Err.ensures.written c.in-Err.ensures.counts
