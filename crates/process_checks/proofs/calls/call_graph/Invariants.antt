use Rattle.std.proofs.Common.{◌≡◌, ◌++◌, map, drop}
use Rattle.process_checks.specs.Calls.{called_by}
use Rattle.process_checks.specs.GraphView.{lists_of}
use Rattle.process_checks.proofs.calls.call_graph.Given as goal

abbrev pub invariant-loop-process : goal.invariant-loop-process
invariant-loop-process l =
    lists_of l.made.items ++ map called_by (drop l.process-index l.process-items) ≡ map called_by l.process-items
