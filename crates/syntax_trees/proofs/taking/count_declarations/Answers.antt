use Rattle.std.proofs.Common.{arith}
use Rattle.syntax_trees.proofs.TakingItems.{counts_end, counts_step}
use Rattle.syntax_trees.proofs.taking.count_declarations.Goals as goal

pub loop-list-preserved : goal.loop-list-preserved
loop-list-preserved c =
    omega (
      arith,
      counts_end c.loop-list.waiting.items c.pop.new.self.items c.in-Some.list c.in-Some.ensures.items
          c.in_default-split_first.ensures.cases,
    )

pub loop-list-smaller : goal.loop-list-smaller
loop-list-smaller c =
    omega (
      arith,
      counts_end c.loop-list.waiting.items c.pop.new.self.items c.in-Some.list c.in-Some.ensures.items
          c.in_default-split_first.ensures.cases,
      c.in-Some.ensures.cases,
    )

pub loop-list-preserved-in-Continue-branch-4 : goal.loop-list-preserved-in-Continue-branch-4
loop-list-preserved-in-Continue-branch-4 c =
    omega (
      arith,
      c.in_ok-count.ensures,
      counts_step c.loop-list.waiting.items c.pop.new.self.items c.push-in-Some-split_first.new.self.items
          c.push-in-Some-split_first-2.new.self.items c.in-Some.list c.in-Some-split_first.rest c.own_declarations.result
          c.in-Some-split_first.first.now c.in-Some.ensures.items c.in-Some-split_first.ensures.cases.0 c.in_ok-push-2.ensures.items
          c.own_declarations.ensures c.in_ok-push-3.ensures.items,
    )

pub loop-list-smaller-in-Continue-branch-4 : goal.loop-list-smaller-in-Continue-branch-4
loop-list-smaller-in-Continue-branch-4 c =
    omega (
      arith,
      c.in-Some.ensures.cases,
      c.in_ok-push-2.ensures.len,
      c.in_ok-push-3.ensures.len,
      counts_step c.loop-list.waiting.items c.pop.new.self.items c.push-in-Some-split_first.new.self.items
          c.push-in-Some-split_first-2.new.self.items c.in-Some.list c.in-Some-split_first.rest c.own_declarations.result
          c.in-Some-split_first.first.now c.in-Some.ensures.items c.in-Some-split_first.ensures.cases.0 c.in_ok-push-2.ensures.items
          c.own_declarations.ensures c.in_ok-push-3.ensures.items,
    )
