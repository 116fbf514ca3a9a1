use Rattle.std.proofs.Common.{◌≡◌, drop}
use Rattle.path_order.specs.ComparedView.{tables_behind}
use Rattle.path_order.specs.Comparison.{exceeds_in}
use Rattle.path_order.proofs.compared.exceeds_from_left.Given as goal

abbrev pub invariant-loop-i : goal.invariant-loop-i
invariant-loop-i l = exceeds_in 0 (tables_behind l.rows) ≡ exceeds_in l.i (tables_behind (drop l.i l.rows))
