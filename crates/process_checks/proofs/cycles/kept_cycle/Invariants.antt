use Rattle.std.proofs.Common.{◌≡◌, ◌++◌, ℕ, List, Some}
use Rattle.process_checks.specs.Graph.{IsKeptCycle, IsKeptWay}
use Rattle.process_checks.specs.GraphView.{lists_of}
use Rattle.process_checks.specs.Ways.{distance_in}
use Rattle.process_checks.proofs.cycles.kept_cycle.Given as goal

abbrev pub invariant-loop-left : goal.invariant-loop-left
invariant-loop-left l =
    (distance_in l.distances.items l.current ≡ Some l.left)
    × ((way : List ℕ) → IsKeptWay (lists_of l.graph.items) l.current way l.process
    → IsKeptCycle (lists_of l.graph.items) l.process l.fn.back.position (l.cycle.items ++ way))

abbrev pub decreases-loop-left : goal.decreases-loop-left
decreases-loop-left l = l.left
