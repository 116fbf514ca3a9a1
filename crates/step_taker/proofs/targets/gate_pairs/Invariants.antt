use Rattle.std.proofs.Common.{◌≡◌, ◌++◌, drop}
use Rattle.std.specs.Prelude.{zip}
use Rattle.step_taker.proofs.targets.gate_pairs.Given as goal

abbrev pub invariant-loop-i : goal.invariant-loop-i
invariant-loop-i l =
    l.pairs.items ++ zip (drop l.i l.formals.items) (drop l.i l.actuals.items) ≡ zip l.formals.items l.actuals.items
