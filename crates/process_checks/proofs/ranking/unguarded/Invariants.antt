use Rattle.std.proofs.Common.{◌<◌, ℕ}
use Rattle.process_checks.specs.Graph.{LiesOnCycle}
use Rattle.process_checks.specs.GraphView.{lists_of}
use Rattle.process_checks.proofs.ranking.unguarded.Given as goal

abbrev pub invariant-loop-process : goal.invariant-loop-process
invariant-loop-process l =
    (earlier k : ℕ) → earlier < l.process → LiesOnCycle (lists_of l.graph.items) earlier k → ⊥
