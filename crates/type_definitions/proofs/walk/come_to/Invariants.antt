use Rattle.std.proofs.Common.{List, ℕ}
use Rattle.type_definitions.specs.FlatteningOrder.{FlatteningComesTo}
use Rattle.type_definitions.specs.GraphView.{graph_of}
use Rattle.type_definitions.specs.Walking.{IsTypeWalk, Runs, work_left}
use Rattle.type_definitions.proofs.walk.come_to.Given as goal

abbrev pub invariant-loop-frame : goal.invariant-loop-frame
invariant-loop-frame l =
    IsTypeWalk (graph_of l.graph) l.progress l.order.items l.stack.items
    × ((all : List ℕ) → Runs (graph_of l.graph) l.order.items l.stack.items all
    → FlatteningComesTo (graph_of l.graph) l.fn.order.items l.root all)

abbrev pub decreases-loop-frame : goal.decreases-loop-frame
decreases-loop-frame l = work_left l.progress l.stack.items
