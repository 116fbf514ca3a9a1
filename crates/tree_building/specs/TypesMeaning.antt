-- What the rows of types mean, from what their parts mean.
use Rattle.std.specs.Prelude.{ℕ, List, [], ◌∷◌, ◌++◌, Option, Some, None, option_and_then}
use Rattle.lotos_base.specs.WrittenTerm.{PlacedName}
use Rattle.lotos_rows.specs.HandedOn.{Token}
use Rattle.syntax_trees.specs.WrittenItem.{WrittenTypeBody, extends, renames, actualises, libraries, type_declared}
use Rattle.lotos_rows.specs.Names.{place_of}
use Rattle.lotos_rows.specs.Types.{operations_of_profile, no_equations}
use Rattle.tree_building.specs.Meaning.{PlainAfterBase, renamed, actualised, extended, Meaning, some_named_operations, an_item, some_items, a_body, after_base, some_sections, declared_operations, an_equation_section}
use Rattle.tree_building.specs.Parts.{with_next, meant_name, meant_names, meant_variables, meant_operation, meant_operations, meant_profile, meant_groups, meant_both_pairs, meant_item, meant_items, meant_body, meant_after_base, meant_sections, meant_declared_operations, meant_equation_section}

-- "library" names "endlib"
abbrev pub library_item : Option Token → List Meaning → Option Meaning
library_item token parts = option_and_then (λ word. with_next meant_names parts
    (λ names parts. Some (an_item (libraries (place_of word) names)))) token

-- "type" name "is" body "endtype"
abbrev pub type_item : List Meaning → Option Meaning
type_item parts =
    with_next meant_name parts
    (λ name parts. with_next meant_body parts (λ body parts. Some (an_item (type_declared name.place name.name body))))

-- the body of a first name and what stands behind it
abbrev pub body_from : PlacedName → PlainAfterBase → WrittenTypeBody
body_from base (renamed pairs) = renames base pairs
body_from base (actualised actuals pairs) = actualises base actuals pairs
body_from base (extended imports sections) = extends (base ∷ imports) sections

-- name after_base
abbrev pub named_body : List Meaning → Option Meaning
named_body parts = with_next meant_name parts (λ base parts.
    with_next meant_after_base parts (λ after parts. Some (a_body (body_from base after))))

abbrev pub sections_body : List Meaning → Option Meaning
sections_body parts = with_next meant_sections parts (λ sections parts. Some (a_body (extends [] sections)))

abbrev pub renaming_after_base : List Meaning → Option Meaning
renaming_after_base parts = with_next meant_both_pairs parts (λ pairs parts. Some (after_base (renamed pairs)))

-- "actualizedby" names "using" renames
abbrev pub actualisation_after_base : List Meaning → Option Meaning
actualisation_after_base parts =
    with_next meant_names parts
    (λ actuals parts. with_next meant_both_pairs parts (λ pairs parts. Some (after_base (actualised actuals pairs))))

-- more_names sections
abbrev pub extension_after_base : List Meaning → Option Meaning
extension_after_base parts =
    with_next meant_names parts (λ imports parts. with_next meant_sections parts
    (λ sections parts. Some (after_base (extended imports sections))))

-- formal_sorts formal_operations formal_equations sorts operations equations
abbrev pub sections_of_parts : List Meaning → Option Meaning
sections_of_parts parts =
    with_next meant_names parts (λ formal_sorts parts. with_next meant_declared_operations parts (λ formal_operations parts.
    with_next meant_equation_section parts (λ formal_equations parts. with_next meant_names parts (λ sorts parts.
    with_next meant_declared_operations parts (λ operations parts. with_next meant_equation_section parts (λ equations parts.
    Some (some_sections (record {
      formal_sorts = formal_sorts;
      formal_operations = formal_operations;
      formal_equations = formal_equations;
      sorts = sorts;
      operations = operations;
      equations = equations;
    }))))))))

abbrev pub no_operations_declared : Option Meaning
no_operations_declared = Some (declared_operations [])

abbrev pub same_operations_declared : List Meaning → Option Meaning
same_operations_declared parts = with_next meant_declared_operations parts (λ operations parts. Some (declared_operations operations))

-- operation more_operations profile operation_lines
abbrev pub line_before_lines : List Meaning → Option Meaning
line_before_lines parts =
    with_next meant_operation parts
    (λ first parts. with_next meant_operations parts (λ more parts. with_next meant_profile parts (λ profile parts.
    with_next meant_declared_operations parts (λ others parts.
    Some (declared_operations (operations_of_profile (first ∷ more) profile ++ others))))))

abbrev pub no_more_operations : Option Meaning
no_more_operations = Some (some_named_operations [])

-- "," operation more_operations
abbrev pub operation_before_operations : List Meaning → Option Meaning
operation_before_operations parts =
    with_next meant_operation parts
    (λ first parts. with_next meant_operations parts (λ more parts. Some (some_named_operations (first ∷ more))))

abbrev pub no_equation_section : Option Meaning
no_equation_section = Some (an_equation_section no_equations)

-- variables_for_all equation_groups
abbrev pub equation_section : List Meaning → Option Meaning
equation_section parts =
    with_next meant_variables parts (λ variables parts. with_next meant_groups parts (λ groups parts.
    Some (an_equation_section (record { variables = variables; groups = groups }))))

abbrev pub no_items : Option Meaning
no_items = Some (some_items [])

abbrev pub same_items : List Meaning → Option Meaning
same_items parts = with_next meant_items parts (λ items parts. Some (some_items items))

-- item items
abbrev pub item_before_items : List Meaning → Option Meaning
item_before_items parts =
    with_next meant_item parts (λ first parts. with_next meant_items parts (λ more parts. Some (some_items (first ∷ more))))
