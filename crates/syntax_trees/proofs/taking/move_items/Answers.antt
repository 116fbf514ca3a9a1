use Rattle.std.proofs.Common.{arith, map, drop, ap, ◌∙◌, ◌∷◌, sym}
use Rattle.syntax_trees.specs.TreeViews.{inner_list_of, item_of, written_process_of}
use Rattle.syntax_trees.proofs.TakingItems.{count_in, opened, closed_level, counts_process, counts_closed}
use Rattle.syntax_trees.proofs.taking.move_items.Goals as goal

pub loop-item-preserved : goal.loop-item-preserved
loop-item-preserved c =
    let n = counts_closed c.loop-item.outer.items c.pop.new.self.items c.in-Some.above c.in-Some.ensures.items in
    let a = ap (λ it. count_in (inner_list_of it)) c.close-level.ensures.ahead in
    let b = ap (λ it. count_in (inner_list_of it)) c.in-None.ensures.last in (
      closed_level (map item_of c.args.items.now.items) (inner_list_of c.args.inner.items) c.loop-item.outer.items c.pop.new.self.items
          c.loop-item.level c.take_next.new.self c.close-level.result c.in-Some.above c.finish.result.items
          (map item_of c.loop-item.items.items)
          c.loop-item.invariant.0 c.in-None.ensures.kept c.in-None.ensures.last c.in-Some.ensures.items c.finish.ensures
          c.close-level.ensures.kept c.close-level.ensures.ahead,
      omega arith,
      omega (arith, c.in-Some.ensures.cases, c.in-Some.ensures.capacity),
    )

pub loop-item-smaller : goal.loop-item-smaller
loop-item-smaller c =
    let n = counts_closed c.loop-item.outer.items c.pop.new.self.items c.in-Some.above c.in-Some.ensures.items in
    let a = ap (λ it. count_in (inner_list_of it)) c.close-level.ensures.ahead in
    let b = ap (λ it. count_in (inner_list_of it)) c.in-None.ensures.last in
    omega (arith, c.in-Some.ensures.cases)

pub loop-item-preserved-in-Some-Process : goal.loop-item-preserved-in-Some-Process
loop-item-preserved-in-Some-Process c =
    let next = c.take_next.new.self in
    let at = c.in-Some-Process.ensures.next ∙ ap (λ it. it ∷ drop next.next next.list.items) c.in-Some-Process.field-0-is in
    let parts = ap written_process_of (sym c.in-Some-Process.process-is) ∙ c.of-above.ensures.process in
    let n = counts_process c.loop-item.level next c.loop-item.outer.items c.push_reserved-in-Some-Process.new.self.items c.of-above.result.0
    c.in-Some-Process.process c.of-above.result.1.items at c.of-above.ensures.level parts c.push_reserved-in-Some-Process.ensures.items in
    let a = ap (λ it. count_in (inner_list_of it)) c.of-level-in-Some-Process.ensures.ahead in (
      opened (map item_of c.args.items.now.items) (inner_list_of c.args.inner.items) c.loop-item.outer.items
          c.push_reserved-in-Some-Process.new.self.items c.loop-item.level next c.of-level-in-Some-Process.result c.of-above.result.0
          c.in-Some-Process.process c.of-above.result.1.items (map item_of c.loop-item.items.items) c.loop-item.invariant.0
          c.in-Some-Process.ensures.kept at c.of-above.ensures.level parts c.push_reserved-in-Some-Process.ensures.items
          c.of-level-in-Some-Process.ensures.kept c.of-level-in-Some-Process.ensures.ahead,
      omega arith,
      omega (arith, c.push_reserved-in-Some-Process.ensures.len, c.push_reserved-in-Some-Process.ensures.capacity),
    )

pub loop-item-smaller-in-Some-Process : goal.loop-item-smaller-in-Some-Process
loop-item-smaller-in-Some-Process c =
    let next = c.take_next.new.self in
    let at = c.in-Some-Process.ensures.next ∙ ap (λ it. it ∷ drop next.next next.list.items) c.in-Some-Process.field-0-is in
    let parts = ap written_process_of (sym c.in-Some-Process.process-is) ∙ c.of-above.ensures.process in
    let n = counts_process c.loop-item.level next c.loop-item.outer.items c.push_reserved-in-Some-Process.new.self.items c.of-above.result.0
    c.in-Some-Process.process c.of-above.result.1.items at c.of-above.ensures.level parts c.push_reserved-in-Some-Process.ensures.items in
    let a = ap (λ it. count_in (inner_list_of it)) c.of-level-in-Some-Process.ensures.ahead in
    omega (arith, c.push_reserved-in-Some-Process.ensures.len)
