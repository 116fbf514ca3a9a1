use Rattle.std.proofs.Common.{◌≡◌, ◌++◌}
use Rattle.lotos_rows.specs.Types.{operations_of_profile}
use Rattle.syntax_trees.specs.TreeViews.{written_operation_of}
use Rattle.ll_engine.specs.Run.{from_last}
use Rattle.tree_building.specs.NamesViews.{named_operation_of, profile_of}
use Rattle.type_building.proofs.types.add_operations.Given as goal

-- the operations of the names so far are in front
abbrev pub invariant-loop-operation : goal.invariant-loop-operation
invariant-loop-operation l =
    from_last written_operation_of l.operations.items
    ≡ operations_of_profile (from_last named_operation_of l.yielded) (profile_of l.profile)
    ++ from_last written_operation_of l.initial.operations.items
