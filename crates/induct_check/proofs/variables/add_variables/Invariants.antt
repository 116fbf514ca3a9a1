use Rattle.std.proofs.Common.{◌≡◌, ◌++◌, drop, map}
use Rattle.lotos_base.specs.WrittenView.{placed_name_of}
use Rattle.lotos_rows.specs.Names.{variables_of_sort}
use Rattle.syntax_trees.specs.TreeViews.{written_variables_of}
use Rattle.induct_check.proofs.variables.add_variables.Given as goal

abbrev pub invariant-loop-number : goal.invariant-loop-number
invariant-loop-number l =
    written_variables_of l.variables.items ++ variables_of_sort (map placed_name_of (drop l.number l.names)) (placed_name_of l.sort)
    ≡ written_variables_of l.initial.variables.items ++ variables_of_sort (map placed_name_of l.names) (placed_name_of l.sort)
