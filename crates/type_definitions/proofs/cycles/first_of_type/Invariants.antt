use Rattle.std.proofs.Common.{ℕ, ◌<◌}
use Rattle.type_definitions.specs.GraphView.{graph_of}
use Rattle.type_definitions.specs.TypeGraph.{IsMention, IsOnCycle}
use Rattle.type_definitions.proofs.cycles.first_of_type.Given as goal

abbrev pub invariant-loop-position : goal.invariant-loop-position
invariant-loop-position l =
    (m j : ℕ) → m < l.position → IsMention (graph_of l.graph) l.by m j → ¬ IsOnCycle (graph_of l.graph) l.by j
