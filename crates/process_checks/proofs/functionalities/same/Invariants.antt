use Rattle.std.proofs.Common.{◌≡◌, drop}
use Rattle.process_checks.specs.Functionality.{are_same}
use Rattle.process_checks.proofs.functionalities.same.Given as goal

abbrev pub invariant-loop-i : goal.invariant-loop-i
invariant-loop-i l = are_same l.left l.right ≡ are_same (drop l.i l.left) (drop l.i l.right)
