use Rattle.process_checks.specs.GraphView.{lists_of}
use Rattle.process_checks.specs.Search.{IsStep, left_in}
use Rattle.process_checks.proofs.search.Search.finish.Given as goal

abbrev pub invariant-loop-process : goal.invariant-loop-process
invariant-loop-process l = IsStep (lists_of l.graph.items) l.fn.self l.self

abbrev pub decreases-loop-process : goal.decreases-loop-process
decreases-loop-process l = left_in l.self
