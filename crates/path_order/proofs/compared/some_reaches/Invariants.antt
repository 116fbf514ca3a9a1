use Rattle.std.proofs.Common.{◌≡◌, drop}
use Rattle.path_order.specs.ComparedView.{tables_behind}
use Rattle.path_order.specs.Comparison.{some_reaches_in}
use Rattle.path_order.proofs.compared.some_reaches.Given as goal

abbrev pub invariant-loop-row : goal.invariant-loop-row
invariant-loop-row l = some_reaches_in (tables_behind l.rows) ≡ some_reaches_in (tables_behind (drop l.row-index l.rows))
