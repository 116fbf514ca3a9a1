use Rattle.induct_check.specs.ReadingView.{stop_of}
use Rattle.induct_check.proofs.StopLemmas.{lacks_before}
use Rattle.induct_check.proofs.checking.comes_before.Goals as goal

pub returns-in-NoTree : goal.returns-in-NoTree
returns-in-NoTree c = lacks_before (stop_of c.args.stop) c.args.at.now c.in-NoTree.field-0 c.in-NoTree.is
