-- What the rows of names keep is what is kept of what they mean.
use Rattle.std.proofs.Common.{◌≡◌, ◌∙◌, ℕ, List, [], ◌∷◌, ◌++◌, map, length, Some, refl, ap}
use Rattle.std.specs.Prelude.{Option}
use Rattle.lotos_lexer.specs.declared.tokens.Token.{Token}
use Rattle.lotos_base.specs.Signature.{prefix_form, infix_form}
use Rattle.lotos_lexer.specs.declared.tokens.Token.{Token}
use Rattle.lotos_rows.specs.Names.{named, variables_of_sort}
use Rattle.tree_building.specs.Meaning.{a_name, a_profile, an_operation, some_names, some_variables, Meaning}
use Rattle.tree_building.specs.Parts.{next_in, meant_name, meant_names, meant_variables}
use Rattle.tree_building.specs.NamesMeaning.{token_named, same_name, no_names, same_names, name_alone, name_before_names, no_variables, same_variables, variables_before_variables, prefix_operation, infix_operation, profile_of_names}
use Rattle.lotos_rows.specs.Names.{named}
use Rattle.text_depth.specs.DepthPart.{of_names, depth_of}
use Rattle.text_depth.specs.RowDepth.{token_name, closing_parts, parts_together, around_middle}
use Rattle.text_depth.proofs.Inversions.{and_then_some, map_some, taken, shape0, shape1, shape2, shape3, name_in_is, names_in_is, variables_in_is}
use Rattle.text_depth.proofs.Facts.{row, closes, variables_together}

pub same_name_is : (limit : ℕ) (parts : List Meaning) (m : Meaning) → length parts ≡ 1 → same_name parts ≡ Some m →
    parts_together (map (depth_of limit) parts) ≡ Some (depth_of limit m)
same_name_is limit parts m n e =
    let i1 = and_then_some (next_in meant_name parts) _ m e in
    let e1 = taken meant_name a_name name_in_is parts i1.0 i1.1 in
    let name = i1.0.0 in
    let shown : List Meaning = a_name name ∷ [] in
    let s : parts ≡ shown = shape1 parts (a_name name) i1.0.1 e1 n in
    let x : Meaning = a_name name in
    row limit (parts_together) parts shown x m s i1.2 (refl)

pub no_names_is : (limit : ℕ) (parts : List Meaning) (m : Meaning) → length parts ≡ 0 → no_names ≡ Some m →
    parts_together (map (depth_of limit) parts) ≡ Some (depth_of limit m)
no_names_is limit parts m n e =
    let shown : List Meaning = [] in
    let s : parts ≡ shown = shape0 parts n in
    let x : Meaning = some_names [] in
    row limit (parts_together) parts shown x m s e (refl)

pub same_names_is : (limit : ℕ) (parts : List Meaning) (m : Meaning) → length parts ≡ 1 → same_names parts ≡ Some m →
    parts_together (map (depth_of limit) parts) ≡ Some (depth_of limit m)
same_names_is limit parts m n e =
    let i1 = and_then_some (next_in meant_names parts) _ m e in
    let e1 = taken meant_names some_names names_in_is parts i1.0 i1.1 in
    let names = i1.0.0 in
    let shown : List Meaning = some_names names ∷ [] in
    let s : parts ≡ shown = shape1 parts (some_names names) i1.0.1 e1 n in
    let x : Meaning = some_names names in
    row limit (parts_together) parts shown x m s i1.2 (refl)

pub name_alone_is : (limit : ℕ) (parts : List Meaning) (m : Meaning) → length parts ≡ 1 → name_alone parts ≡ Some m →
    parts_together (map (depth_of limit) parts) ≡ Some (depth_of limit m)
name_alone_is limit parts m n e =
    let i1 = and_then_some (next_in meant_name parts) _ m e in
    let e1 = taken meant_name a_name name_in_is parts i1.0 i1.1 in
    let name = i1.0.0 in
    let shown : List Meaning = a_name name ∷ [] in
    let s : parts ≡ shown = shape1 parts (a_name name) i1.0.1 e1 n in
    let x : Meaning = some_names (name ∷ []) in
    row limit (parts_together) parts shown x m s i1.2 (refl)

pub name_before_names_is : (limit : ℕ) (parts : List Meaning) (m : Meaning) → length parts ≡ 2 → name_before_names parts ≡ Some m →
    parts_together (map (depth_of limit) parts) ≡ Some (depth_of limit m)
name_before_names_is limit parts m n e =
    let i1 = and_then_some (next_in meant_name parts) _ m e in
    let e1 = taken meant_name a_name name_in_is parts i1.0 i1.1 in
    let name = i1.0.0 in
    let i2 = and_then_some (next_in meant_names i1.0.1) _ m i1.2 in
    let e2 = taken meant_names some_names names_in_is i1.0.1 i2.0 i2.1 in
    let names = i2.0.0 in
    let shown : List Meaning = a_name name ∷ some_names names ∷ [] in
    let s : parts ≡ shown = shape2 parts (a_name name) (some_names names) i1.0.1 i2.0.1 e1 e2 n in
    let x : Meaning = some_names (name ∷ names) in
    row limit (parts_together) parts shown x m s i2.2 (refl)

pub no_variables_is : (limit : ℕ) (parts : List Meaning) (m : Meaning) → length parts ≡ 0 → no_variables ≡ Some m →
    parts_together (map (depth_of limit) parts) ≡ Some (depth_of limit m)
no_variables_is limit parts m n e =
    let shown : List Meaning = [] in
    let s : parts ≡ shown = shape0 parts n in
    let x : Meaning = some_variables [] in
    row limit (parts_together) parts shown x m s e (refl)

pub same_variables_is : (limit : ℕ) (parts : List Meaning) (m : Meaning) → length parts ≡ 1 → same_variables parts ≡ Some m →
    parts_together (map (depth_of limit) parts) ≡ Some (depth_of limit m)
same_variables_is limit parts m n e =
    let i1 = and_then_some (next_in meant_variables parts) _ m e in
    let e1 = taken meant_variables some_variables variables_in_is parts i1.0 i1.1 in
    let variables = i1.0.0 in
    let shown : List Meaning = some_variables variables ∷ [] in
    let s : parts ≡ shown = shape1 parts (some_variables variables) i1.0.1 e1 n in
    let x : Meaning = some_variables variables in
    row limit (parts_together) parts shown x m s i1.2 (refl)

pub variables_before_variables_is : (limit : ℕ) (parts : List Meaning) (m : Meaning) → length parts ≡ 3
    → variables_before_variables parts ≡ Some m →
    around_middle (map (depth_of limit) parts) ≡ Some (depth_of limit m)
variables_before_variables_is limit parts m n e =
    let i1 = and_then_some (next_in meant_names parts) _ m e in
    let e1 = taken meant_names some_names names_in_is parts i1.0 i1.1 in
    let names = i1.0.0 in
    let i2 = and_then_some (next_in meant_name i1.0.1) _ m i1.2 in
    let e2 = taken meant_name a_name name_in_is i1.0.1 i2.0 i2.1 in
    let sort = i2.0.0 in
    let i3 = and_then_some (next_in meant_variables i2.0.1) _ m i2.2 in
    let e3 = taken meant_variables some_variables variables_in_is i2.0.1 i3.0 i3.1 in
    let more = i3.0.0 in
    let shown : List Meaning = some_names names ∷ a_name sort ∷ some_variables more ∷ [] in
    let s : parts ≡ shown = shape3 parts (some_names names) (a_name sort) (some_variables more) i1.0.1 i2.0.1 i3.0.1 e1 e2 e3 n in
    let x : Meaning = some_variables (variables_of_sort names sort ++ more) in
    row limit (around_middle) parts shown x m s i3.2 (ap (λ it. Some (of_names it)) (variables_together names sort more))

pub prefix_operation_is : (limit : ℕ) (parts : List Meaning) (m : Meaning) → length parts ≡ 1 → prefix_operation parts ≡ Some m →
    closing_parts limit (map (depth_of limit) parts) ≡ Some (depth_of limit m)
prefix_operation_is limit parts m n e =
    let i1 = and_then_some (next_in meant_name parts) _ m e in
    let e1 = taken meant_name a_name name_in_is parts i1.0 i1.1 in
    let name = i1.0.0 in
    let shown : List Meaning = a_name name ∷ [] in
    let s : parts ≡ shown = shape1 parts (a_name name) i1.0.1 e1 n in
    let x : Meaning = an_operation (record { name = name; form = prefix_form }) in
    row limit (closing_parts limit) parts shown x m s i1.2 (closes limit shown x refl refl)

pub infix_operation_is : (limit : ℕ) (parts : List Meaning) (m : Meaning) → length parts ≡ 1 → infix_operation parts ≡ Some m →
    closing_parts limit (map (depth_of limit) parts) ≡ Some (depth_of limit m)
infix_operation_is limit parts m n e =
    let i1 = and_then_some (next_in meant_name parts) _ m e in
    let e1 = taken meant_name a_name name_in_is parts i1.0 i1.1 in
    let name = i1.0.0 in
    let shown : List Meaning = a_name name ∷ [] in
    let s : parts ≡ shown = shape1 parts (a_name name) i1.0.1 e1 n in
    let x : Meaning = an_operation (record { name = name; form = infix_form }) in
    row limit (closing_parts limit) parts shown x m s i1.2 (closes limit shown x refl refl)

pub profile_of_names_is : (limit : ℕ) (parts : List Meaning) (m : Meaning) → length parts ≡ 2 → profile_of_names parts ≡ Some m →
    closing_parts limit (map (depth_of limit) parts) ≡ Some (depth_of limit m)
profile_of_names_is limit parts m n e =
    let i1 = and_then_some (next_in meant_names parts) _ m e in
    let e1 = taken meant_names some_names names_in_is parts i1.0 i1.1 in
    let arguments = i1.0.0 in
    let i2 = and_then_some (next_in meant_name i1.0.1) _ m i1.2 in
    let e2 = taken meant_name a_name name_in_is i1.0.1 i2.0 i2.1 in
    let result = i2.0.0 in
    let shown : List Meaning = some_names arguments ∷ a_name result ∷ [] in
    let s : parts ≡ shown = shape2 parts (some_names arguments) (a_name result) i1.0.1 i2.0.1 e1 e2 n in
    let x : Meaning = a_profile (record { arguments = arguments; result = result }) in
    row limit (closing_parts limit) parts shown x m s i2.2 (closes limit shown x refl refl)

pub token_named_is : (limit : ℕ) (text : List ℕ) (token : Option Token) (m : Meaning) → token_named text token ≡ Some m →
    token_name token ≡ Some (depth_of limit m)
token_named_is limit text token m e =
    let i = map_some token (λ it. a_name (named text it)) m e in
    let same : a_name (named text i.0) ≡ m = cc (i.2) in ap token_name i.1 ∙ ap (λ it. Some (depth_of limit it)) same
