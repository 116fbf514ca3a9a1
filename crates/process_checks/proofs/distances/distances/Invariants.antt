use Rattle.std.proofs.Common.{◌-◌, length}
use Rattle.process_checks.specs.GraphView.{lists_of}
use Rattle.process_checks.proofs.DistanceLemmas.{IsLevel}
use Rattle.process_checks.proofs.distances.distances.Given as goal

abbrev pub invariant-loop-alloc : goal.invariant-loop-alloc
invariant-loop-alloc l = IsLevel (lists_of l.graph.items) l.to l.made.items l.frontier.items l.level

abbrev pub decreases-loop-alloc : goal.decreases-loop-alloc
decreases-loop-alloc l = length l.graph.items - l.level
