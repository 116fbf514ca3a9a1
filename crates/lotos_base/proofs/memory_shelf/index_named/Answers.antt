use Rattle.lotos_base.proofs.TextUnder.{none_before_more}
use Rattle.lotos_base.proofs.memory_shelf.index_named.Goals as goal

pub loop-index-preserved : goal.loop-index-preserved
loop-index-preserved c = none_before_more c.args.files.now c.loop-index.index c.index-files-index.result c.args.name.now
    c.loop-index-test.true c.index-files-index.is c.loop-index.invariant (cc)
