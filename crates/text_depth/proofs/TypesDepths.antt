-- What the rows of types keep is what is kept of what they mean.
use Rattle.std.proofs.Common.{◌≡◌, ℕ, List, [], ◌∷◌, ◌++◌, map, length, Some, refl, append-nil, append_assoc}
use Rattle.std.specs.Prelude.{Option}
use Rattle.lotos_lexer.specs.declared.tokens.Token.{Token}
use Rattle.lotos_lexer.specs.declared.tokens.Token.{Token}
use Rattle.syntax_trees.specs.WrittenItem.{extends, libraries, type_declared}
use Rattle.lotos_rows.specs.Names.{place_of}
use Rattle.lotos_rows.specs.Types.{operations_of_profile, no_equations}
use Rattle.tree_building.specs.Meaning.{renamed, actualised, extended, a_body, a_name, a_profile, after_base, an_equation_section, an_item, an_operation, both_pairs, declared_operations, some_groups, some_items, some_named_operations, some_names, some_sections, some_variables, Meaning}
use Rattle.tree_building.specs.Parts.{next_in, meant_after_base, meant_body, meant_both_pairs, meant_declared_operations, meant_equation_section, meant_groups, meant_item, meant_items, meant_name, meant_names, meant_operation, meant_operations, meant_profile, meant_sections, meant_variables}
use Rattle.tree_building.specs.TypesMeaning.{library_item, type_item, body_from, named_body, sections_body, renaming_after_base, actualisation_after_base, extension_after_base, sections_of_parts, no_operations_declared, same_operations_declared, line_before_lines, no_more_operations, operation_before_operations, no_equation_section, equation_section, no_items, same_items, item_before_items}
use Rattle.lotos_rows.specs.Types.{no_equations}
use Rattle.text_depth.specs.DepthPart.{depth_of}
use Rattle.text_depth.specs.RowDepth.{closing_parts}
use Rattle.text_depth.proofs.Inversions.{and_then_some, taken, shape0, shape1, shape2, shape4, shape6, after_base_in_is, body_in_is, both_pairs_in_is, declared_operations_in_is, equation_section_in_is, groups_in_is, item_in_is, items_in_is, name_in_is, names_in_is, operation_in_is, operations_in_is, profile_in_is, sections_in_is, variables_in_is}
use Rattle.text_depth.proofs.Facts.{row, closes, body_nodes}

pub library_item_is : (limit : ℕ) (token : Option Token) (parts : List Meaning) (m : Meaning) → length parts ≡ 1
    → library_item token parts ≡ Some m →
    closing_parts limit (map (depth_of limit) parts) ≡ Some (depth_of limit m)
library_item_is limit token parts m n e =
    let i1 = and_then_some token _ m e in
    let word = i1.0 in
    let i2 = and_then_some (next_in meant_names parts) _ m i1.2 in
    let e2 = taken meant_names some_names names_in_is parts i2.0 i2.1 in
    let names = i2.0.0 in
    let shown : List Meaning = some_names names ∷ [] in
    let s : parts ≡ shown = shape1 parts (some_names names) i2.0.1 e2 n in
    let x : Meaning = an_item (libraries (place_of word) names) in
    row limit (closing_parts limit) parts shown x m s i2.2 (closes limit shown x refl refl)

pub type_item_is : (limit : ℕ) (parts : List Meaning) (m : Meaning) → length parts ≡ 2 → type_item parts ≡ Some m →
    closing_parts limit (map (depth_of limit) parts) ≡ Some (depth_of limit m)
type_item_is limit parts m n e =
    let i1 = and_then_some (next_in meant_name parts) _ m e in
    let e1 = taken meant_name a_name name_in_is parts i1.0 i1.1 in
    let name = i1.0.0 in
    let i2 = and_then_some (next_in meant_body i1.0.1) _ m i1.2 in
    let e2 = taken meant_body a_body body_in_is i1.0.1 i2.0 i2.1 in
    let body = i2.0.0 in
    let shown : List Meaning = a_name name ∷ a_body body ∷ [] in
    let s : parts ≡ shown = shape2 parts (a_name name) (a_body body) i1.0.1 i2.0.1 e1 e2 n in
    let x : Meaning = an_item (type_declared name.place name.name body) in
    row limit (closing_parts limit) parts shown x m s i2.2 (closes limit shown x refl (simp (append-nil, append_assoc)))

pub named_body_is : (limit : ℕ) (parts : List Meaning) (m : Meaning) → length parts ≡ 2 → named_body parts ≡ Some m →
    closing_parts limit (map (depth_of limit) parts) ≡ Some (depth_of limit m)
named_body_is limit parts m n e =
    let i1 = and_then_some (next_in meant_name parts) _ m e in
    let e1 = taken meant_name a_name name_in_is parts i1.0 i1.1 in
    let base = i1.0.0 in
    let i2 = and_then_some (next_in meant_after_base i1.0.1) _ m i1.2 in
    let e2 = taken meant_after_base after_base after_base_in_is i1.0.1 i2.0 i2.1 in
    let after = i2.0.0 in
    let shown : List Meaning = a_name base ∷ after_base after ∷ [] in
    let s : parts ≡ shown = shape2 parts (a_name base) (after_base after) i1.0.1 i2.0.1 e1 e2 n in
    let x : Meaning = a_body (body_from base after) in
    row limit (closing_parts limit) parts shown x m s i2.2 (closes limit shown x refl (body_nodes base after))

pub sections_body_is : (limit : ℕ) (parts : List Meaning) (m : Meaning) → length parts ≡ 1 → sections_body parts ≡ Some m →
    closing_parts limit (map (depth_of limit) parts) ≡ Some (depth_of limit m)
sections_body_is limit parts m n e =
    let i1 = and_then_some (next_in meant_sections parts) _ m e in
    let e1 = taken meant_sections some_sections sections_in_is parts i1.0 i1.1 in
    let sections = i1.0.0 in
    let shown : List Meaning = some_sections sections ∷ [] in
    let s : parts ≡ shown = shape1 parts (some_sections sections) i1.0.1 e1 n in
    let x : Meaning = a_body (extends [] sections) in
    row limit (closing_parts limit) parts shown x m s i1.2 (closes limit shown x refl (simp (append-nil, append_assoc)))

pub renaming_after_base_is : (limit : ℕ) (parts : List Meaning) (m : Meaning) → length parts ≡ 1 → renaming_after_base parts ≡ Some m →
    closing_parts limit (map (depth_of limit) parts) ≡ Some (depth_of limit m)
renaming_after_base_is limit parts m n e =
    let i1 = and_then_some (next_in meant_both_pairs parts) _ m e in
    let e1 = taken meant_both_pairs both_pairs both_pairs_in_is parts i1.0 i1.1 in
    let pairs = i1.0.0 in
    let shown : List Meaning = both_pairs pairs ∷ [] in
    let s : parts ≡ shown = shape1 parts (both_pairs pairs) i1.0.1 e1 n in
    let x : Meaning = after_base (renamed pairs) in
    row limit (closing_parts limit) parts shown x m s i1.2 (closes limit shown x refl refl)

pub actualisation_after_base_is : (limit : ℕ) (parts : List Meaning) (m : Meaning) → length parts ≡ 2
    → actualisation_after_base parts ≡ Some m →
    closing_parts limit (map (depth_of limit) parts) ≡ Some (depth_of limit m)
actualisation_after_base_is limit parts m n e =
    let i1 = and_then_some (next_in meant_names parts) _ m e in
    let e1 = taken meant_names some_names names_in_is parts i1.0 i1.1 in
    let actuals = i1.0.0 in
    let i2 = and_then_some (next_in meant_both_pairs i1.0.1) _ m i1.2 in
    let e2 = taken meant_both_pairs both_pairs both_pairs_in_is i1.0.1 i2.0 i2.1 in
    let pairs = i2.0.0 in
    let shown : List Meaning = some_names actuals ∷ both_pairs pairs ∷ [] in
    let s : parts ≡ shown = shape2 parts (some_names actuals) (both_pairs pairs) i1.0.1 i2.0.1 e1 e2 n in
    let x : Meaning = after_base (actualised actuals pairs) in
    row limit (closing_parts limit) parts shown x m s i2.2 (closes limit shown x refl refl)

pub extension_after_base_is : (limit : ℕ) (parts : List Meaning) (m : Meaning) → length parts ≡ 2 → extension_after_base parts ≡ Some m →
    closing_parts limit (map (depth_of limit) parts) ≡ Some (depth_of limit m)
extension_after_base_is limit parts m n e =
    let i1 = and_then_some (next_in meant_names parts) _ m e in
    let e1 = taken meant_names some_names names_in_is parts i1.0 i1.1 in
    let imports = i1.0.0 in
    let i2 = and_then_some (next_in meant_sections i1.0.1) _ m i1.2 in
    let e2 = taken meant_sections some_sections sections_in_is i1.0.1 i2.0 i2.1 in
    let sections = i2.0.0 in
    let shown : List Meaning = some_names imports ∷ some_sections sections ∷ [] in
    let s : parts ≡ shown = shape2 parts (some_names imports) (some_sections sections) i1.0.1 i2.0.1 e1 e2 n in
    let x : Meaning = after_base (extended imports sections) in
    row limit (closing_parts limit) parts shown x m s i2.2 (closes limit shown x refl (simp (append-nil, append_assoc)))

pub sections_of_parts_is : (limit : ℕ) (parts : List Meaning) (m : Meaning) → length parts ≡ 6 → sections_of_parts parts ≡ Some m →
    closing_parts limit (map (depth_of limit) parts) ≡ Some (depth_of limit m)
sections_of_parts_is limit parts m n e =
    let i1 = and_then_some (next_in meant_names parts) _ m e in
    let e1 = taken meant_names some_names names_in_is parts i1.0 i1.1 in
    let formal_sorts = i1.0.0 in
    let i2 = and_then_some (next_in meant_declared_operations i1.0.1) _ m i1.2 in
    let e2 = taken meant_declared_operations declared_operations declared_operations_in_is i1.0.1 i2.0 i2.1 in
    let formal_operations = i2.0.0 in
    let i3 = and_then_some (next_in meant_equation_section i2.0.1) _ m i2.2 in
    let e3 = taken meant_equation_section an_equation_section equation_section_in_is i2.0.1 i3.0 i3.1 in
    let formal_equations = i3.0.0 in
    let i4 = and_then_some (next_in meant_names i3.0.1) _ m i3.2 in
    let e4 = taken meant_names some_names names_in_is i3.0.1 i4.0 i4.1 in
    let sorts = i4.0.0 in
    let i5 = and_then_some (next_in meant_declared_operations i4.0.1) _ m i4.2 in
    let e5 = taken meant_declared_operations declared_operations declared_operations_in_is i4.0.1 i5.0 i5.1 in
    let operations = i5.0.0 in
    let i6 = and_then_some (next_in meant_equation_section i5.0.1) _ m i5.2 in
    let e6 = taken meant_equation_section an_equation_section equation_section_in_is i5.0.1 i6.0 i6.1 in
    let equations = i6.0.0 in
    let shown : List Meaning = some_names formal_sorts ∷ declared_operations formal_operations ∷ an_equation_section formal_equations
    ∷ some_names sorts ∷ declared_operations operations ∷ an_equation_section equations ∷ [] in
    let s : parts ≡ shown = shape6 parts (some_names formal_sorts) (declared_operations formal_operations)
    (an_equation_section formal_equations) (some_names sorts) (declared_operations operations) (an_equation_section equations) i1.0.1
    i2.0.1 i3.0.1 i4.0.1 i5.0.1 i6.0.1 e1 e2 e3 e4 e5 e6 n in
    let x : Meaning = some_sections (record {
      formal_sorts = formal_sorts;
      formal_operations = formal_operations;
      formal_equations = formal_equations;
      sorts = sorts;
      operations = operations;
      equations = equations;
    }) in
    row limit (closing_parts limit) parts shown x m s i6.2 (closes limit shown x refl (simp (append-nil, append_assoc)))

pub no_operations_declared_is : (limit : ℕ) (parts : List Meaning) (m : Meaning) → length parts ≡ 0 → no_operations_declared ≡ Some m →
    closing_parts limit (map (depth_of limit) parts) ≡ Some (depth_of limit m)
no_operations_declared_is limit parts m n e =
    let shown : List Meaning = [] in
    let s : parts ≡ shown = shape0 parts n in
    let x : Meaning = declared_operations [] in
    row limit (closing_parts limit) parts shown x m s e (closes limit shown x refl refl)

pub same_operations_declared_is : (limit : ℕ) (parts : List Meaning) (m : Meaning) → length parts ≡ 1
    → same_operations_declared parts ≡ Some m →
    closing_parts limit (map (depth_of limit) parts) ≡ Some (depth_of limit m)
same_operations_declared_is limit parts m n e =
    let i1 = and_then_some (next_in meant_declared_operations parts) _ m e in
    let e1 = taken meant_declared_operations declared_operations declared_operations_in_is parts i1.0 i1.1 in
    let operations = i1.0.0 in
    let shown : List Meaning = declared_operations operations ∷ [] in
    let s : parts ≡ shown = shape1 parts (declared_operations operations) i1.0.1 e1 n in
    let x : Meaning = declared_operations operations in
    row limit (closing_parts limit) parts shown x m s i1.2 (closes limit shown x refl refl)

pub line_before_lines_is : (limit : ℕ) (parts : List Meaning) (m : Meaning) → length parts ≡ 4 → line_before_lines parts ≡ Some m →
    closing_parts limit (map (depth_of limit) parts) ≡ Some (depth_of limit m)
line_before_lines_is limit parts m n e =
    let i1 = and_then_some (next_in meant_operation parts) _ m e in
    let e1 = taken meant_operation an_operation operation_in_is parts i1.0 i1.1 in
    let first = i1.0.0 in
    let i2 = and_then_some (next_in meant_operations i1.0.1) _ m i1.2 in
    let e2 = taken meant_operations some_named_operations operations_in_is i1.0.1 i2.0 i2.1 in
    let more = i2.0.0 in
    let i3 = and_then_some (next_in meant_profile i2.0.1) _ m i2.2 in
    let e3 = taken meant_profile a_profile profile_in_is i2.0.1 i3.0 i3.1 in
    let profile = i3.0.0 in
    let i4 = and_then_some (next_in meant_declared_operations i3.0.1) _ m i3.2 in
    let e4 = taken meant_declared_operations declared_operations declared_operations_in_is i3.0.1 i4.0 i4.1 in
    let others = i4.0.0 in
    let shown : List Meaning = an_operation first ∷ some_named_operations more ∷ a_profile profile ∷ declared_operations others ∷ [] in
    let s : parts ≡ shown = shape4 parts (an_operation first) (some_named_operations more) (a_profile profile) (declared_operations others)
    i1.0.1 i2.0.1 i3.0.1 i4.0.1 e1 e2 e3 e4 n in
    let x : Meaning = declared_operations (operations_of_profile (first ∷ more) profile ++ others) in
    row limit (closing_parts limit) parts shown x m s i4.2 (closes limit shown x refl refl)

pub no_more_operations_is : (limit : ℕ) (parts : List Meaning) (m : Meaning) → length parts ≡ 0 → no_more_operations ≡ Some m →
    closing_parts limit (map (depth_of limit) parts) ≡ Some (depth_of limit m)
no_more_operations_is limit parts m n e =
    let shown : List Meaning = [] in
    let s : parts ≡ shown = shape0 parts n in
    let x : Meaning = some_named_operations [] in
    row limit (closing_parts limit) parts shown x m s e (closes limit shown x refl refl)

pub operation_before_operations_is : (limit : ℕ) (parts : List Meaning) (m : Meaning) → length parts ≡ 2
    → operation_before_operations parts ≡ Some m →
    closing_parts limit (map (depth_of limit) parts) ≡ Some (depth_of limit m)
operation_before_operations_is limit parts m n e =
    let i1 = and_then_some (next_in meant_operation parts) _ m e in
    let e1 = taken meant_operation an_operation operation_in_is parts i1.0 i1.1 in
    let first = i1.0.0 in
    let i2 = and_then_some (next_in meant_operations i1.0.1) _ m i1.2 in
    let e2 = taken meant_operations some_named_operations operations_in_is i1.0.1 i2.0 i2.1 in
    let more = i2.0.0 in
    let shown : List Meaning = an_operation first ∷ some_named_operations more ∷ [] in
    let s : parts ≡ shown = shape2 parts (an_operation first) (some_named_operations more) i1.0.1 i2.0.1 e1 e2 n in
    let x : Meaning = some_named_operations (first ∷ more) in
    row limit (closing_parts limit) parts shown x m s i2.2 (closes limit shown x refl refl)

pub no_equation_section_is : (limit : ℕ) (parts : List Meaning) (m : Meaning) → length parts ≡ 0 → no_equation_section ≡ Some m →
    closing_parts limit (map (depth_of limit) parts) ≡ Some (depth_of limit m)
no_equation_section_is limit parts m n e =
    let shown : List Meaning = [] in
    let s : parts ≡ shown = shape0 parts n in
    let x : Meaning = an_equation_section no_equations in
    row limit (closing_parts limit) parts shown x m s e (closes limit shown x refl refl)

pub equation_section_is : (limit : ℕ) (parts : List Meaning) (m : Meaning) → length parts ≡ 2 → equation_section parts ≡ Some m →
    closing_parts limit (map (depth_of limit) parts) ≡ Some (depth_of limit m)
equation_section_is limit parts m n e =
    let i1 = and_then_some (next_in meant_variables parts) _ m e in
    let e1 = taken meant_variables some_variables variables_in_is parts i1.0 i1.1 in
    let variables = i1.0.0 in
    let i2 = and_then_some (next_in meant_groups i1.0.1) _ m i1.2 in
    let e2 = taken meant_groups some_groups groups_in_is i1.0.1 i2.0 i2.1 in
    let groups = i2.0.0 in
    let shown : List Meaning = some_variables variables ∷ some_groups groups ∷ [] in
    let s : parts ≡ shown = shape2 parts (some_variables variables) (some_groups groups) i1.0.1 i2.0.1 e1 e2 n in
    let x : Meaning = an_equation_section (record { variables = variables; groups = groups }) in
    row limit (closing_parts limit) parts shown x m s i2.2 (closes limit shown x refl (simp (append-nil, append_assoc)))

pub no_items_is : (limit : ℕ) (parts : List Meaning) (m : Meaning) → length parts ≡ 0 → no_items ≡ Some m →
    closing_parts limit (map (depth_of limit) parts) ≡ Some (depth_of limit m)
no_items_is limit parts m n e =
    let shown : List Meaning = [] in
    let s : parts ≡ shown = shape0 parts n in
    let x : Meaning = some_items [] in
    row limit (closing_parts limit) parts shown x m s e (closes limit shown x refl refl)

pub same_items_is : (limit : ℕ) (parts : List Meaning) (m : Meaning) → length parts ≡ 1 → same_items parts ≡ Some m →
    closing_parts limit (map (depth_of limit) parts) ≡ Some (depth_of limit m)
same_items_is limit parts m n e =
    let i1 = and_then_some (next_in meant_items parts) _ m e in
    let e1 = taken meant_items some_items items_in_is parts i1.0 i1.1 in
    let items = i1.0.0 in
    let shown : List Meaning = some_items items ∷ [] in
    let s : parts ≡ shown = shape1 parts (some_items items) i1.0.1 e1 n in
    let x : Meaning = some_items items in
    row limit (closing_parts limit) parts shown x m s i1.2 (closes limit shown x refl (simp (append-nil, append_assoc)))

pub item_before_items_is : (limit : ℕ) (parts : List Meaning) (m : Meaning) → length parts ≡ 2 → item_before_items parts ≡ Some m →
    closing_parts limit (map (depth_of limit) parts) ≡ Some (depth_of limit m)
item_before_items_is limit parts m n e =
    let i1 = and_then_some (next_in meant_item parts) _ m e in
    let e1 = taken meant_item an_item item_in_is parts i1.0 i1.1 in
    let first = i1.0.0 in
    let i2 = and_then_some (next_in meant_items i1.0.1) _ m i1.2 in
    let e2 = taken meant_items some_items items_in_is i1.0.1 i2.0 i2.1 in
    let more = i2.0.0 in
    let shown : List Meaning = an_item first ∷ some_items more ∷ [] in
    let s : parts ≡ shown = shape2 parts (an_item first) (some_items more) i1.0.1 i2.0.1 e1 e2 n in
    let x : Meaning = some_items (first ∷ more) in
    row limit (closing_parts limit) parts shown x m s i2.2 (closes limit shown x refl (simp (append-nil, append_assoc)))
