use Rattle.std.proofs.Common.{ℕ, ◌<◌}
use Rattle.type_definitions.specs.FirstInRow.{HasNoneInRow}
use Rattle.type_definitions.specs.GraphView.{graph_of}
use Rattle.type_definitions.proofs.cycles.first_on_cycle.Given as goal

abbrev pub invariant-loop-by : goal.invariant-loop-by
invariant-loop-by l = (i : ℕ) → i < l.by → HasNoneInRow (graph_of l.graph) i
