use Rattle.process_checks.specs.GraphView.{lists_of}
use Rattle.process_checks.proofs.CallerLemmas.{AreCallersBelow}
use Rattle.process_checks.proofs.distances.callers.Given as goal

abbrev pub invariant-loop-process : goal.invariant-loop-process
invariant-loop-process l = AreCallersBelow (lists_of l.graph.items) (lists_of l.made.items) l.process
