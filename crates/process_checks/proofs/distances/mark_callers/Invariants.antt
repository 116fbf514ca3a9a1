use Rattle.std.proofs.Common.{◌≡◌, drop}
use Rattle.process_checks.specs.Distances.{marked_processes, reach_of}
use Rattle.process_checks.specs.Graph.{calls_at}
use Rattle.process_checks.specs.GraphView.{lists_of}
use Rattle.process_checks.proofs.distances.mark_callers.Given as goal

abbrev pub invariant-loop-position : goal.invariant-loop-position
invariant-loop-position l =
    marked_processes l.level (drop l.position (calls_at (lists_of l.callers.items) l.process)) (reach_of l.distances.items l.next.items)
    ≡ marked_processes l.level (calls_at (lists_of l.callers.items) l.process) (reach_of l.fn.distances.items l.fn.next.items)
