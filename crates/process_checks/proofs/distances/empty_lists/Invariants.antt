use Rattle.std.proofs.Common.{◌≡◌, [], replicate}
use Rattle.process_checks.specs.GraphView.{lists_of}
use Rattle.process_checks.proofs.distances.empty_lists.Given as goal

abbrev pub invariant-loop-i : goal.invariant-loop-i
invariant-loop-i l = lists_of l.made.items ≡ replicate l._i []
