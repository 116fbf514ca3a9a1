use Rattle.std.proofs.Common.{◌≡◌, drop}
use Rattle.path_order.specs.ComparedView.{all_tables}
use Rattle.path_order.specs.Comparison.{exceeds_all_in}
use Rattle.path_order.proofs.compared.exceeds_all.Given as goal

abbrev pub invariant-loop-table : goal.invariant-loop-table
invariant-loop-table l = exceeds_all_in (all_tables l.table-items) ≡ exceeds_all_in (all_tables (drop l.table-index l.table-items))
