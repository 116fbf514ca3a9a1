use Rattle.std.proofs.Common.{◌≡◌, drop}
use Rattle.path_order.specs.ComparedView.{tables_behind}
use Rattle.path_order.specs.Comparison.{equals_in}
use Rattle.path_order.proofs.compared.equals.Given as goal

abbrev pub invariant-loop-i : goal.invariant-loop-i
invariant-loop-i l = equals_in 0 (tables_behind l.rows) ≡ equals_in l.i (tables_behind (drop l.i l.rows))
