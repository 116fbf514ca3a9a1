use Rattle.std.proofs.Common.{◌≡◌, drop}
use Rattle.process_checks.specs.Distances.{with_calls}
use Rattle.process_checks.specs.Graph.{calls_at}
use Rattle.process_checks.specs.GraphView.{lists_of}
use Rattle.process_checks.proofs.distances.add_calls.Given as goal

abbrev pub invariant-loop-position : goal.invariant-loop-position
invariant-loop-position l =
    with_calls l.process (drop l.position (calls_at (lists_of l.graph.items) l.process)) (lists_of l.made.items)
    ≡ with_calls l.process (calls_at (lists_of l.graph.items) l.process) (lists_of l.fn.made.items)
