use Rattle.std.proofs.Common.{[]}
use Rattle.line_server.proofs.ServedBytes.{line_served, line_failed, line_wanted}
use Rattle.line_server.proofs.line.serve_line.Goals as goal

pub returns-in-Err-clause-served : goal.returns-in-Err-clause-served
returns-in-Err-clause-served g c =
    line_wanted g.L.Lines.machine c.args.line.now.items [] _ _ (g.K.Sink.state c.args.output.now)
    (rw c.as_slice.ensures.value at c.in-Err.ensures.served)

pub returns-in-Err-write_whole-clause-served : goal.returns-in-Err-write_whole-clause-served
returns-in-Err-write_whole-clause-served g c =
    line_failed g.L.Lines.machine c.args.line.now.items [] _ _ (g.K.Sink.state c.args.output.now)
    (g.K.Sink.state c.write_whole.new.output) c.in-Ok.answer
    (rw c.as_slice.ensures.value at c.in-Ok.ensures.served)
    (rw c.as_slice-in-Ok.ensures.value at c.in-Err-write_whole.ensures.written) c.in-Err-write_whole.ensures.counts

pub returns-clause-served : goal.returns-clause-served
returns-clause-served g c =
    line_served g.L.Lines.machine c.args.line.now.items _ _ (g.K.Sink.state c.args.output.now)
    (g.K.Sink.state c.write_whole.new.output) c.in-Ok.answer
    (rw c.as_slice.ensures.value at c.in-Ok.ensures.served)
    (rw c.as_slice-in-Ok.ensures.value at c.in-Ok-write_whole.ensures.written) c.in-Ok-write_whole.ensures.counts
