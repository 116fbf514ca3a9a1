use Rattle.lotos_base.proofs.Pieces.{within_more}
use Rattle.real_outside.proofs.WriteLemmas.{appends_more}
use Rattle.real_outside.proofs.loops.write_all_of.Goals as goal

pub loop-written-preserved : goal.loop-written-preserved
loop-written-preserved g c =
    let more = c.in-Ok.count in (
      within_more c.args.bytes.now c.loop-written.written more c.loop-written.invariant.0 c.in-Ok.ensures.bound,
      appends_more (g.F.Write.contents c.args.file.now) (g.F.Write.contents c.loop-written.file)
          (g.F.Write.contents c.write.new.self) c.args.bytes.now c.loop-written.written more c.loop-written.invariant.1
          c.in-Ok.ensures.bytes,
    )
