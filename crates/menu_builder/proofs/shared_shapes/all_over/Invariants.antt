use Rattle.std.proofs.Common.{◌≡◌, ◌≤◌, drop, length}
use Rattle.behaviour_tree.specs.MoveView.{shape_of}
use Rattle.menu_builder.specs.SharedShapes.{below_all}
use Rattle.menu_builder.proofs.shared_shapes.all_over.Given as goal

abbrev pub invariant-loop-left : goal.invariant-loop-left
invariant-loop-left l = record {
  same : shape_of l.made ≡ below_all (drop l.left l.path) (shape_of l.fn.shape);
  within : l.left ≤ length l.path;
}

abbrev pub decreases-loop-left : goal.decreases-loop-left
decreases-loop-left l = l.left
