use Rattle.std.proofs.Common.{◌≡◌, ◌++◌, map, drop}
use Rattle.process_checks.specs.Calls.{process_at}
use Rattle.process_checks.proofs.calls.called.Given as goal

abbrev pub invariant-loop-call : goal.invariant-loop-call
invariant-loop-call l = l.made.items ++ map process_at (drop l.call-index l.call-items) ≡ map process_at l.call-items
