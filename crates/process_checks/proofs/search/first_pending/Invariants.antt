use Rattle.std.proofs.Common.{◌<◌, ◌≤◌, ℕ}
use Rattle.process_checks.specs.Graph.{IsCallAt}
use Rattle.process_checks.specs.GraphView.{lists_of}
use Rattle.process_checks.specs.Search.{IsRanked}
use Rattle.process_checks.proofs.search.first_pending.Given as goal

abbrev pub invariant-loop-position : goal.invariant-loop-position
invariant-loop-position l =
    (k other : ℕ) → l.from ≤ k → k < l.position → IsCallAt (lists_of l.graph.items) l.process k other
    → IsRanked l.statuses.items other
