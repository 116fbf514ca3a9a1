use Rattle.std.proofs.Common.{◌≡◌, drop, false}
use Rattle.path_order.specs.ComparedView.{tables_behind}
use Rattle.path_order.specs.Comparison.{exceeds_last_in}
use Rattle.path_order.proofs.compared.exceeds_from_right.Given as goal

abbrev pub invariant-loop-i : goal.invariant-loop-i
invariant-loop-i l =
    exceeds_last_in false 0 (tables_behind l.rows) ≡ exceeds_last_in l.told l.i (tables_behind (drop l.i l.rows))
