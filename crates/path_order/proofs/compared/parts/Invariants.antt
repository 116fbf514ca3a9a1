use Rattle.std.proofs.Common.{◌≡◌, ◌++◌, drop}
use Rattle.path_order.specs.ComparedView.{tables_behind}
use Rattle.path_order.specs.Comparison.{parts_in}
use Rattle.path_order.proofs.compared.parts.Given as goal

abbrev pub invariant-loop-row : goal.invariant-loop-row
invariant-loop-row l =
    tables_behind l.found.items ++ parts_in l.position (tables_behind (drop l.row-index l.rows)) ≡ parts_in l.position
    (tables_behind l.rows)
