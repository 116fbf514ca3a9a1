use Rattle.std.proofs.Common.{◌≡◌, ◌++◌}
use Rattle.lotos_base.specs.WrittenView.{placed_name_of}
use Rattle.lotos_rows.specs.Names.{variables_of_sort}
use Rattle.syntax_trees.specs.TreeViews.{written_variable_of}
use Rattle.lotos_rows.specs.HandedOn.{from_last}
use Rattle.tree_building.proofs.names.add_variables.Given as goal

-- the variables of the names so far are in front
abbrev pub invariant-loop-name : goal.invariant-loop-name
invariant-loop-name l =
    from_last written_variable_of l.variables.items
    ≡ variables_of_sort (from_last placed_name_of l.yielded) (placed_name_of l.sort)
    ++ from_last written_variable_of l.initial.variables.items
