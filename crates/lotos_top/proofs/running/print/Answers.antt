use Rattle.certificate_verbs.specs.Printed.{print_in}
use Rattle.lotos_top.proofs.RunLemmas.{wrote_whole, wrote_part}
use Rattle.lotos_top.proofs.running.print.Goals as goal

pub returns-in-Ok : goal.returns-in-Ok
returns-in-Ok g c =
    wrote_whole (print_in c.args.alone.now) (g.K.Sink.state c.args.output.now)
    (g.K.Sink.state c.write_whole.new.output) c.as_slice.result.now
    c.as_slice.ensures.value c.in-Ok.ensures.written c.in-Ok.ensures.counts

pub returns-in-Err : goal.returns-in-Err
returns-in-Err g c =
    wrote_part (print_in c.args.alone.now) (g.K.Sink.state c.args.output.now)
    (g.K.Sink.state c.write_whole.new.output) c.as_slice.result.now
    c.as_slice.ensures.value c.in-Err.ensures.written c.in-Err.ensures.counts
