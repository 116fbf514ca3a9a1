-- What the rows of definitions keep is what is kept of what they mean.
use Rattle.std.proofs.Common.{◌≡◌, ◌∙◌, ℕ, List, [], ◌∷◌, ◌++◌, map, length, Some, None, refl, ap, append-nil, append_assoc}
use Rattle.syntax_trees.specs.WrittenDefinition.{inner_item, process, inners_of}
use Rattle.tree_building.specs.Meaning.{a_functionality, a_heading, a_name, a_process, an_item, some_inner, some_names, some_operands, some_variables, Meaning}
use Rattle.tree_building.specs.Parts.{next_in, meant_functionality, meant_heading, meant_inner, meant_item, meant_name, meant_names, meant_operands, meant_process, meant_variables}
use Rattle.tree_building.specs.DefinitionsMeaning.{heading_of_parts, no_exit, exit_of_sorts, nothing_inner, same_inner, item_before_inner, process_before_inner, process_of_parts}
use Rattle.syntax_trees.specs.Strength.{strength_of, joined_by_sign}
use Rattle.syntax_trees.specs.Grouping.{grouped}
use Rattle.syntax_trees.specs.Firsts.{everywhere}
use Rattle.syntax_trees.specs.Depth.{first_deeper, behaviour_nodes, nodes_of_inners}
use Rattle.text_depth.specs.DepthPart.{of_firsts, depth_of}
use Rattle.text_depth.specs.RowDepth.{closing_parts}
use Rattle.text_depth.proofs.Inversions.{and_then_some, taken, shape0, shape1, shape2, shape3, shape4, functionality_in_is, heading_in_is, inner_in_is, item_in_is, name_in_is, names_in_is, operands_in_is, process_in_is, variables_in_is}
use Rattle.text_depth.proofs.Facts.{row, closes, closed_is, closed_flat, one_more_closed}

pub heading_of_parts_is : (limit : ℕ) (parts : List Meaning) (m : Meaning) → length parts ≡ 4 → heading_of_parts parts ≡ Some m →
    closing_parts limit (map (depth_of limit) parts) ≡ Some (depth_of limit m)
heading_of_parts_is limit parts m n e =
    let i1 = and_then_some (next_in meant_name parts) _ m e in
    let e1 = taken meant_name a_name name_in_is parts i1.0 i1.1 in
    let name = i1.0.0 in
    let i2 = and_then_some (next_in meant_names i1.0.1) _ m i1.2 in
    let e2 = taken meant_names some_names names_in_is i1.0.1 i2.0 i2.1 in
    let gates = i2.0.0 in
    let i3 = and_then_some (next_in meant_variables i2.0.1) _ m i2.2 in
    let e3 = taken meant_variables some_variables variables_in_is i2.0.1 i3.0 i3.1 in
    let parameters = i3.0.0 in
    let i4 = and_then_some (next_in meant_functionality i3.0.1) _ m i3.2 in
    let e4 = taken meant_functionality a_functionality functionality_in_is i3.0.1 i4.0 i4.1 in
    let functionality = i4.0.0 in
    let shown : List Meaning = a_name name ∷ some_names gates ∷ some_variables parameters ∷ a_functionality functionality ∷ [] in
    let s : parts ≡ shown = shape4 parts (a_name name) (some_names gates) (some_variables parameters) (a_functionality functionality) i1.0.1
    i2.0.1 i3.0.1 i4.0.1 e1 e2 e3 e4 n in
    let x : Meaning = a_heading (record {
      place = name.place;
      name = name.name;
      gates = gates;
      parameters = parameters;
      functionality = functionality;
    }) in
    row limit (closing_parts limit) parts shown x m s i4.2 (closes limit shown x refl refl)

pub no_exit_is : (limit : ℕ) (parts : List Meaning) (m : Meaning) → length parts ≡ 0 → no_exit ≡ Some m →
    closing_parts limit (map (depth_of limit) parts) ≡ Some (depth_of limit m)
no_exit_is limit parts m n e =
    let shown : List Meaning = [] in
    let s : parts ≡ shown = shape0 parts n in
    let x : Meaning = a_functionality None in
    row limit (closing_parts limit) parts shown x m s e (closes limit shown x refl refl)

pub exit_of_sorts_is : (limit : ℕ) (parts : List Meaning) (m : Meaning) → length parts ≡ 1 → exit_of_sorts parts ≡ Some m →
    closing_parts limit (map (depth_of limit) parts) ≡ Some (depth_of limit m)
exit_of_sorts_is limit parts m n e =
    let i1 = and_then_some (next_in meant_names parts) _ m e in
    let e1 = taken meant_names some_names names_in_is parts i1.0 i1.1 in
    let sorts = i1.0.0 in
    let shown : List Meaning = some_names sorts ∷ [] in
    let s : parts ≡ shown = shape1 parts (some_names sorts) i1.0.1 e1 n in
    let x : Meaning = a_functionality (Some sorts) in
    row limit (closing_parts limit) parts shown x m s i1.2 (closes limit shown x refl refl)

pub nothing_inner_is : (limit : ℕ) (parts : List Meaning) (m : Meaning) → length parts ≡ 0 → nothing_inner ≡ Some m →
    closing_parts limit (map (depth_of limit) parts) ≡ Some (depth_of limit m)
nothing_inner_is limit parts m n e =
    let shown : List Meaning = [] in
    let s : parts ≡ shown = shape0 parts n in
    let x : Meaning = some_inner [] in
    row limit (closing_parts limit) parts shown x m s e (closes limit shown x refl refl)

pub same_inner_is : (limit : ℕ) (parts : List Meaning) (m : Meaning) → length parts ≡ 1 → same_inner parts ≡ Some m →
    closing_parts limit (map (depth_of limit) parts) ≡ Some (depth_of limit m)
same_inner_is limit parts m n e =
    let i1 = and_then_some (next_in meant_inner parts) _ m e in
    let e1 = taken meant_inner some_inner inner_in_is parts i1.0 i1.1 in
    let inner = i1.0.0 in
    let shown : List Meaning = some_inner inner ∷ [] in
    let s : parts ≡ shown = shape1 parts (some_inner inner) i1.0.1 e1 n in
    let x : Meaning = some_inner inner in
    row limit (closing_parts limit) parts shown x m s i1.2 (closes limit shown x refl (simp (append-nil, append_assoc)))

pub item_before_inner_is : (limit : ℕ) (parts : List Meaning) (m : Meaning) → length parts ≡ 2 → item_before_inner parts ≡ Some m →
    closing_parts limit (map (depth_of limit) parts) ≡ Some (depth_of limit m)
item_before_inner_is limit parts m n e =
    let i1 = and_then_some (next_in meant_item parts) _ m e in
    let e1 = taken meant_item an_item item_in_is parts i1.0 i1.1 in
    let item = i1.0.0 in
    let i2 = and_then_some (next_in meant_inner i1.0.1) _ m i1.2 in
    let e2 = taken meant_inner some_inner inner_in_is i1.0.1 i2.0 i2.1 in
    let more = i2.0.0 in
    let shown : List Meaning = an_item item ∷ some_inner more ∷ [] in
    let s : parts ≡ shown = shape2 parts (an_item item) (some_inner more) i1.0.1 i2.0.1 e1 e2 n in
    let x : Meaning = some_inner (inner_item item ∷ more) in
    row limit (closing_parts limit) parts shown x m s i2.2 (closes limit shown x refl (simp (append-nil, append_assoc)))

pub process_before_inner_is : (limit : ℕ) (parts : List Meaning) (m : Meaning) → length parts ≡ 2 → process_before_inner parts ≡ Some m →
    closing_parts limit (map (depth_of limit) parts) ≡ Some (depth_of limit m)
process_before_inner_is limit parts m n e =
    let i1 = and_then_some (next_in meant_process parts) _ m e in
    let e1 = taken meant_process a_process process_in_is parts i1.0 i1.1 in
    let definition = i1.0.0 in
    let i2 = and_then_some (next_in meant_inner i1.0.1) _ m i1.2 in
    let e2 = taken meant_inner some_inner inner_in_is i1.0.1 i2.0 i2.1 in
    let more = i2.0.0 in
    let shown : List Meaning = a_process definition ∷ some_inner more ∷ [] in
    let s : parts ≡ shown = shape2 parts (a_process definition) (some_inner more) i1.0.1 i2.0.1 e1 e2 n in
    let x : Meaning = some_inner (definition ∷ more) in
    row limit (closing_parts limit) parts shown x m s i2.2 (closes limit shown x refl (simp (append-nil, append_assoc)))

pub process_of_parts_is : (limit : ℕ) (parts : List Meaning) (m : Meaning) → length parts ≡ 3 → process_of_parts parts ≡ Some m →
    closing_parts limit (map (depth_of limit) parts) ≡ Some (depth_of limit m)
process_of_parts_is limit parts m n e =
    let i1 = and_then_some (next_in meant_heading parts) _ m e in
    let e1 = taken meant_heading a_heading heading_in_is parts i1.0 i1.1 in
    let heading = i1.0.0 in
    let i2 = and_then_some (next_in meant_operands i1.0.1) _ m i1.2 in
    let e2 = taken meant_operands some_operands operands_in_is i1.0.1 i2.0 i2.1 in
    let flat = i2.0.0 in
    let i3 = and_then_some (next_in meant_inner i2.0.1) _ m i2.2 in
    let e3 = taken meant_inner some_inner inner_in_is i2.0.1 i3.0 i3.1 in
    let inner = i3.0.0 in
    let i4 = and_then_some (grouped strength_of joined_by_sign flat.operands flat.signs) _ m i3.2 in
    let body = i4.0 in
    let shown : List Meaning = a_heading heading ∷ some_operands flat ∷ some_inner inner ∷ [] in
    let s : parts ≡ shown = shape3 parts (a_heading heading) (some_operands flat) (some_inner inner) i1.0.1 i2.0.1 i3.0.1 e1 e2 e3 n in
    let x : Meaning = a_process (process heading body (inners_of inner)) in
    let own = behaviour_nodes 1 body in
    let more = nodes_of_inners (inners_of inner) in
    row limit (closing_parts limit) parts shown x m s i4.2
    (ap (λ it. Some (of_firsts it))
    (one_more_closed limit (depth_of limit (a_heading heading))
    (depth_of limit (some_operands flat) ∷ depth_of limit (some_inner inner) ∷ []) [] (own ++ (more ++ []))
    (closed_is limit (a_heading heading) refl)
    (one_more_closed limit (depth_of limit (some_operands flat)) (depth_of limit (some_inner inner) ∷ []) own (more ++ [])
    (closed_flat limit flat body i4.1)
    (one_more_closed limit (depth_of limit (some_inner inner)) [] more [] (closed_is limit (some_inner inner) refl) refl))
    ∙ ap (λ it. everywhere (first_deeper limit (own ++ it))) (append-nil more)))
