use Rattle.std.proofs.Common.{◌+◌, ◌*◌, ◌≤◌, map, take, drop, vec_capacity, vec_len}
use Rattle.syntax_trees.specs.TreeViews.{inner_list_of, item_of}
use Rattle.syntax_trees.proofs.TakingItems.{IsTaking, count_ahead, count_in, outer_of}
use Rattle.syntax_trees.proofs.taking.move_items.Given as goal

abbrev pub invariant-loop-item : goal.invariant-loop-item
invariant-loop-item l =
    IsTaking (map item_of l.fn.items.items) (inner_list_of l.fn.inner.items) (map outer_of l.outer.items)
    (inner_list_of (take l.level.kept l.level.list.items)) (inner_list_of (drop l.level.next l.level.list.items))
    (map item_of l.items.items)
    × (vec_len l.items + (count_in (inner_list_of (drop l.level.next l.level.list.items)) + count_ahead (map outer_of l.outer.items))
    ≤ vec_capacity l.items)
    × (vec_len l.outer + (count_in (inner_list_of (drop l.level.next l.level.list.items)) + count_ahead (map outer_of l.outer.items))
    ≤ vec_capacity l.outer)

abbrev pub decreases-loop-item : goal.decreases-loop-item
decreases-loop-item l =
    2 * (count_in (inner_list_of (drop l.level.next l.level.list.items)) + count_ahead (map outer_of l.outer.items)) + vec_len l.outer
