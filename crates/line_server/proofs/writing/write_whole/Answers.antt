use Rattle.std.proofs.Common.{arith}
use Rattle.lotos_base.proofs.Pieces.{within_more}
use Rattle.lotos_base.proofs.Streams.{stands_then}
use Rattle.line_server.proofs.Pieces.{written_more}
use Rattle.line_server.proofs.writing.write_whole.Goals as goal

pub loop-count-preserved : goal.loop-count-preserved
loop-count-preserved g c =
    let more = c.in_ok-count.field-0 in (
      within_more c.args.text.now c.loop-count.count more c.loop-count.invariant.0 c.in_ok-count.ensures.within,
      written_more (g.K.Sink.state c.args.output.now).bytes (g.K.Sink.state c.loop-count.output).bytes
          (g.K.Sink.state c.write.new.self).bytes c.args.text.now c.loop-count.count more c.loop-count.invariant.1
          c.in_ok-count.ensures.appended,
      stands_then _ _ _ c.loop-count.invariant.2
          (c.in_ok-count.ensures.counted.some (λ none. omega (arith, none, c.in_ok-count.ensures.moves))),
    )
