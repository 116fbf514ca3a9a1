use Rattle.std.proofs.Common.{◌≡◌, ◌<◌, ℕ, Some}
use Rattle.process_checks.specs.Graph.{IsCallAt}
use Rattle.process_checks.specs.GraphView.{lists_of}
use Rattle.process_checks.specs.Ways.{distance_in}
use Rattle.process_checks.proofs.cycles.next_near.Given as goal

abbrev pub invariant-loop-position : goal.invariant-loop-position
invariant-loop-position l =
    (k other : ℕ) → k < l.position → IsCallAt (lists_of l.graph.items) l.process k other
    → distance_in l.distances.items other ≡ Some l.wanted → ⊥
