use Rattle.std.proofs.Common.{◌≡◌, [], drop}
use Rattle.process_checks.specs.Distances.{callers_marked, reach_of}
use Rattle.process_checks.specs.GraphView.{lists_of}
use Rattle.process_checks.proofs.distances.next_level.Given as goal

abbrev pub invariant-loop-process : goal.invariant-loop-process
invariant-loop-process l =
    callers_marked (lists_of l.callers.items) l.level (drop l.process-index l.process-items) (reach_of l.distances.items l.next.items)
    ≡ callers_marked (lists_of l.callers.items) l.level l.process-items (reach_of l.fn.distances.items [])
