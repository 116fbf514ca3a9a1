-- The plain types that the code's types stand for.
use Rattle.std.specs.Prelude.{ℕ, List, [], map}
use Rattle.lotos_base.specs.Name.{spelling}
use Rattle.lotos_base.specs.WrittenView.{text_place_of, placed_name_of}
use Rattle.syntax_trees.specs.WrittenItem.{WrittenTypeBody, WrittenSections, extends, renames, actualises}
use Rattle.syntax_trees.specs.TreeViews.{placed_names_of, written_operation_of, equations_of, pairs_of}
use Rattle.syntax_trees.specs.declared.items.ItemBody.{ItemBody}
use Rattle.syntax_trees.specs.declared.items.ItemBody.TheVariants.{Library, Extends, Renames, Actualises}
use Rattle.type_definitions.specs.DeclaredTypes.{DeclaredType}
use Rattle.type_definitions.specs.declared.type_texts.TypeText.{TypeText}

-- no sections at all
abbrev pub no_sections : WrittenSections
no_sections = record {
  formal_sorts = [];
  formal_operations = [];
  formal_equations = record { variables = []; groups = [] };
  sorts = [];
  operations = [];
  equations = record { variables = []; groups = [] };
}

-- what stands behind `is`. Mentions of libraries are no types and do not come to this.
abbrev pub type_body_of : ItemBody → WrittenTypeBody
type_body_of (Library names) = extends [] no_sections
type_body_of (Extends name imports formal_sorts formal_ops formal_equations sorts ops equations) =
    extends (placed_names_of imports.items) (record {
      formal_sorts = placed_names_of formal_sorts.items;
      formal_operations = map written_operation_of formal_ops.items;
      formal_equations = equations_of formal_equations;
      sorts = placed_names_of sorts.items;
      operations = map written_operation_of ops.items;
      equations = equations_of equations;
    })
type_body_of (Renames name base sort_pairs op_pairs) =
    renames (placed_name_of base) (pairs_of sort_pairs.items op_pairs.items)
type_body_of (Actualises name base actuals sort_pairs op_pairs) =
    actualises (placed_name_of base) (placed_names_of actuals.items) (pairs_of sort_pairs.items op_pairs.items)

abbrev pub declared_type_of : TypeText → DeclaredType
declared_type_of t =
    record { place = text_place_of t.place; name = spelling t.name.now; body = type_body_of t.body.now }

abbrev pub declared_types_of : List TypeText → List DeclaredType
declared_types_of types = map declared_type_of types

-- the spellings of their names
abbrev pub type_spellings : List TypeText → List (List ℕ)
type_spellings types = map (λ (t : TypeText). spelling t.name.now) types
