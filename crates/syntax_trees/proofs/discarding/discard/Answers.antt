use Rattle.std.proofs.Common.{arith}
use Rattle.syntax_trees.proofs.Counts.{counts_popped}
use Rattle.syntax_trees.proofs.discarding.discard.Goals as goal

pub loop-last-smaller : goal.loop-last-smaller
loop-last-smaller c =
    let all = counts_popped c.loop-last.left.items c.pop.new.self.items c.in-Some.last c.in-Some.ensures.items in
    omega (arith, c.opened-left.ensures)
