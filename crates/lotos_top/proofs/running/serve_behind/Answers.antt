use Rattle.std.proofs.Common.{refl}
use Rattle.certificate_verbs.specs.HandedOn.{standing_of}
use Rattle.lotos_top.specs.Run.{streams}
use Rattle.lotos_top.specs.Prepared.{beginning_of}
use Rattle.lotos_top.proofs.ServingLemmas.{serves_behind, fails_in_front}
use Rattle.lotos_top.proofs.running.serve_behind.Goals as goal

pub returns-in-Ok : goal.returns-in-Ok
returns-in-Ok g c =
    serves_behind (beginning_of c.args.lines.now)
    (g.F.Shelf.state c.args.shelf.now) (g.F.Shelf.state c.serve_input.new.shelf)
    (streams (g.S.Source.state c.args.input.now) (g.K.Sink.state c.args.output.now))
    (streams (g.S.Source.state c.serve_input.new.input) (g.K.Sink.state c.serve_input.new.output))
    c.end_of.result c.args.text.now
    (g.K.Sink.state c.write_whole.new.output)
    (standing_of c.serve_input.new.lines (g.F.Shelf.state c.serve_input.new.shelf).texts) c.serve_input.result c.requires.text
    c.in-Ok.ensures.written c.in-Ok.ensures.counts refl c.serve_input.ensures.served c.end_of.ensures

pub returns-in-Err : goal.returns-in-Err
returns-in-Err g c =
    fails_in_front (beginning_of c.args.lines.now)
    (g.F.Shelf.state c.args.shelf.now)
    (streams (g.S.Source.state c.args.input.now) (g.K.Sink.state c.args.output.now))
    (streams (g.S.Source.state c.args.input.now) (g.K.Sink.state c.write_whole.new.output))
    c.args.text.now c.requires.text refl c.in-Err.ensures.written c.in-Err.ensures.counts
