use Rattle.std.proofs.Common.{◌≡◌, ◌++◌, drop, map}
use Rattle.path_order.specs.ComparedView.{compared_table_of, tables_behind}
use Rattle.path_order.proofs.comparing.references.Given as goal

abbrev pub invariant-loop-table : goal.invariant-loop-table
invariant-loop-table l =
    tables_behind l.rows.items ++ map compared_table_of (drop l.table-index l.table-items) ≡ map compared_table_of l.table-items
