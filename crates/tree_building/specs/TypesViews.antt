-- The plain values of what the parts of types are built into.
use Rattle.std.specs.Prelude.{map}
use Rattle.lotos_base.specs.WrittenView.{placed_name_of}
use Rattle.syntax_trees.specs.TreeViews.{equations_of, written_operation_of, item_of}
use Rattle.syntax_trees.specs.WrittenItem.{WrittenSections, WrittenTypeBody, extends, renames, actualises}
use Rattle.tree_building.specs.declared.types_values.Sections.{Sections}
use Rattle.tree_building.specs.declared.types_values.TypeBody.{TypeBody}
use Rattle.tree_building.specs.declared.types_values.TypeBody.TheVariants as type_body
use Rattle.tree_building.specs.declared.types_values.AfterBase.{AfterBase}
use Rattle.tree_building.specs.declared.types_values.AfterBase.TheVariants as behind
use Rattle.tree_building.specs.RenamingsViews.{both_pairs_of}
use Rattle.lotos_rows.specs.HandedOn.{from_last}
use Rattle.tree_building.specs.Meaning.{PlainAfterBase, renamed, actualised, extended}

abbrev pub written_sections_of : Sections → WrittenSections
written_sections_of sections = record {
  formal_sorts = map placed_name_of sections.formal_sorts.items;
  formal_operations = map written_operation_of sections.formal_ops.items;
  formal_equations = equations_of sections.formal_equations;
  sorts = map placed_name_of sections.sorts.items;
  operations = map written_operation_of sections.ops.items;
  equations = equations_of sections.equations;
}

abbrev pub written_type_body_of : TypeBody → WrittenTypeBody
written_type_body_of (type_body.Extends imports sections) =
    extends (from_last placed_name_of imports.items) (written_sections_of sections.value)
written_type_body_of (type_body.Renames base pairs) = renames (placed_name_of base) (both_pairs_of pairs)
written_type_body_of (type_body.Actualises base actuals pairs) =
    actualises (placed_name_of base) (from_last placed_name_of actuals.items) (both_pairs_of pairs)

abbrev pub after_base_of : AfterBase → PlainAfterBase
after_base_of (behind.Renamed pairs) = renamed (both_pairs_of pairs)
after_base_of (behind.Actualised actuals pairs) = actualised (from_last placed_name_of actuals.items) (both_pairs_of pairs)
after_base_of (behind.Extended imports sections) = extended (from_last placed_name_of imports.items) (written_sections_of sections.value)
