use Rattle.std.proofs.Common.{◌≤◌, drop, length}
use Rattle.menu_builder.specs.SharedShapes.{below_all, ReachesShape}
use Rattle.menu_builder.proofs.shared_shapes.shared_below.Given as goal

abbrev pub invariant-loop-left : goal.invariant-loop-left
invariant-loop-left l = record {
  reaches : ReachesShape (below_all (drop l.left l.path)) l.fn.shapes.items l.fn.start l.shapes.items l.reached;
  within : l.left ≤ length l.path;
}

abbrev pub decreases-loop-left : goal.decreases-loop-left
decreases-loop-left l = l.left
