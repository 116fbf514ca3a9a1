use Rattle.std.proofs.Common.{arith}
use Rattle.syntax_trees.proofs.Counts.{counts_item, counts_process}
use Rattle.syntax_trees.proofs.discarding.opened.Goals as goal

pub loop-first-preserved : goal.loop-first-preserved
loop-first-preserved c =
    let all = counts_process c.loop-first.first c.in-Process.process c.in-Process.is in
    omega (arith, c.loop-first.invariant, c.in-Further.ensures.1)

pub loop-first-smaller : goal.loop-first-smaller
loop-first-smaller c =
    let all = counts_process c.loop-first.first c.in-Process.process c.in-Process.is in
    omega (arith, c.in-Further.ensures.0)

pub returns-in-Item : goal.returns-in-Item
returns-in-Item c =
    let one = counts_item c.loop-first.first c.in-Item.field-0 c.in-Item.is in omega (arith, c.loop-first.invariant)

pub returns-in-Done : goal.returns-in-Done
returns-in-Done c =
    let all = counts_process c.loop-first.first c.in-Process.process c.in-Process.is in
    omega (arith, c.loop-first.invariant, c.in-Done.ensures)
