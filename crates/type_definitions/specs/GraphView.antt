-- The graph that the code's rows stand for.
use Rattle.std.specs.Prelude.{ℕ, List, map, Vec}
use Rattle.std.specs.declared.alloc.Global.{Global}
use Rattle.type_definitions.specs.GraphRows.{graph_rows_of}
use Rattle.type_definitions.specs.declared.graph.MentionGraph.{MentionGraph}

abbrev pub graph_of : MentionGraph → List (List ℕ)
graph_of graph = graph_rows_of graph.rows.items
