-- The plain values of what the parts of names and lists of them are built into.
use Rattle.std.specs.Prelude.{List, map, option_map}
use Rattle.lotos_base.specs.WrittenView.{form_of, placed_name_of}
use Rattle.syntax_trees.specs.TreeViews.{written_variable_of}
use Rattle.lotos_rows.specs.Names.{NamedOperation, PlacedProfile}
use Rattle.tree_building.specs.declared.names_values.NamedOp.{NamedOp}
use Rattle.tree_building.specs.declared.names_values.OpProfile.{OpProfile}

abbrev pub named_operation_of : NamedOp → NamedOperation
named_operation_of operation = record { name = placed_name_of operation.name; form = form_of operation.form }

abbrev pub profile_of : OpProfile → PlacedProfile
profile_of profile = record { arguments = map placed_name_of profile.arguments.items; result = placed_name_of profile.result }
