use Rattle.type_definitions.specs.GraphView.{graph_of}
use Rattle.type_definitions.specs.Ordering.{IsOrdering}
use Rattle.type_definitions.proofs.order.flattening_order.Given as goal

abbrev pub invariant-loop-root : goal.invariant-loop-root
invariant-loop-root l = IsOrdering (graph_of l.graph) l.progress.items l.order.items l.root
