use Rattle.std.proofs.Common.{◌≡◌, length}
use Rattle.std.specs.Prelude.{fold}
use Rattle.ll_engine.specs.Run.{from_last}
use Rattle.syntax_trees.specs.Firsts.{firsts_between}
use Rattle.syntax_trees.specs.FirstsView.{firsts_of}
use Rattle.text_depth.proofs.forms.factors.Given as goal

abbrev pub invariant-loop-next : goal.invariant-loop-next
invariant-loop-next l =
    fold firsts_between (firsts_of l.left) (from_last firsts_of l.behind.items)
    ≡ fold firsts_between (firsts_of l.fn.first) (from_last firsts_of l.fn.behind.items)

abbrev pub decreases-loop-next : goal.decreases-loop-next
decreases-loop-next l = length l.behind.items
