-- What the rows of starts keep is what is kept of what they mean.
use Rattle.std.proofs.Common.{◌≡◌, ◌∙◌, ℕ, List, [], ◌∷◌, ◌++◌, map, length, Some, None, refl, ap, append-nil}
use Rattle.std.specs.Prelude.{option_map, flat_map}
use Rattle.lotos_rows.specs.Starts.{profile_by_name}
use Rattle.tree_building.specs.Meaning.{a_heading, a_name, a_profile, a_specification, a_word, an_operation, maybe_name, maybe_profile, some_inner, some_items, some_operands, some_order_items, Meaning}
use Rattle.tree_building.specs.Parts.{next_in, meant_heading, meant_inner, meant_items, meant_maybe_name, meant_maybe_profile, meant_name, meant_operands, meant_operation, meant_order_items, meant_profile, meant_word}
use Rattle.tree_building.specs.StartsMeaning.{a_behaviour_word, specification_of_parts, no_order_items, item_before_order, no_profile, some_profile, no_status, some_status}
use Rattle.syntax_trees.specs.Strength.{strength_of, joined_by_sign}
use Rattle.syntax_trees.specs.Grouping.{grouped}
use Rattle.syntax_trees.specs.WrittenDefinition.{inners_of}
use Rattle.syntax_trees.specs.Firsts.{everywhere}
use Rattle.syntax_trees.specs.Depth.{first_deeper, behaviour_nodes, nodes_of_inners, nodes_of_item}
use Rattle.text_depth.specs.DepthPart.{of_firsts, depth_of}
use Rattle.text_depth.specs.RowDepth.{closing_parts}
use Rattle.text_depth.proofs.Inversions.{and_then_some, taken, shape0, shape1, shape4, shape5, heading_in_is, inner_in_is, items_in_is, maybe_name_in_is, maybe_profile_in_is, name_in_is, operands_in_is, operation_in_is, order_items_in_is, profile_in_is, word_in_is}
use Rattle.text_depth.proofs.Facts.{row, closes, closed_is, closed_flat, one_more_closed}

pub a_behaviour_word_is : (limit : ℕ) (parts : List Meaning) (m : Meaning) → length parts ≡ 0 → a_behaviour_word ≡ Some m →
    closing_parts limit (map (depth_of limit) parts) ≡ Some (depth_of limit m)
a_behaviour_word_is limit parts m n e =
    let shown : List Meaning = [] in
    let s : parts ≡ shown = shape0 parts n in
    let x : Meaning = a_word tt in
    row limit (closing_parts limit) parts shown x m s e (closes limit shown x refl refl)

pub no_order_items_is : (limit : ℕ) (parts : List Meaning) (m : Meaning) → length parts ≡ 0 → no_order_items ≡ Some m →
    closing_parts limit (map (depth_of limit) parts) ≡ Some (depth_of limit m)
no_order_items_is limit parts m n e =
    let shown : List Meaning = [] in
    let s : parts ≡ shown = shape0 parts n in
    let x : Meaning = some_order_items [] in
    row limit (closing_parts limit) parts shown x m s e (closes limit shown x refl refl)

pub item_before_order_is : (limit : ℕ) (parts : List Meaning) (m : Meaning) → length parts ≡ 4 → item_before_order parts ≡ Some m →
    closing_parts limit (map (depth_of limit) parts) ≡ Some (depth_of limit m)
item_before_order_is limit parts m n e =
    let i1 = and_then_some (next_in meant_operation parts) _ m e in
    let e1 = taken meant_operation an_operation operation_in_is parts i1.0 i1.1 in
    let operation = i1.0.0 in
    let i2 = and_then_some (next_in meant_maybe_profile i1.0.1) _ m i1.2 in
    let e2 = taken meant_maybe_profile maybe_profile maybe_profile_in_is i1.0.1 i2.0 i2.1 in
    let profile = i2.0.0 in
    let i3 = and_then_some (next_in meant_maybe_name i2.0.1) _ m i2.2 in
    let e3 = taken meant_maybe_name maybe_name maybe_name_in_is i2.0.1 i3.0 i3.1 in
    let status = i3.0.0 in
    let i4 = and_then_some (next_in meant_order_items i3.0.1) _ m i3.2 in
    let e4 = taken meant_order_items some_order_items order_items_in_is i3.0.1 i4.0 i4.1 in
    let more = i4.0.0 in
    let shown : List Meaning = an_operation operation ∷ maybe_profile profile ∷ maybe_name status ∷ some_order_items more ∷ [] in
    let s : parts ≡ shown = shape4 parts (an_operation operation) (maybe_profile profile) (maybe_name status) (some_order_items more) i1.0.1
    i2.0.1 i3.0.1 i4.0.1 e1 e2 e3 e4 n in
    let x : Meaning = some_order_items (record {
      place = operation.name.place;
      name = operation.name.name;
      form = operation.form;
      profile = option_map profile_by_name profile;
      status = status;
    } ∷ more) in
    row limit (closing_parts limit) parts shown x m s i4.2 (closes limit shown x refl refl)

pub no_profile_is : (limit : ℕ) (parts : List Meaning) (m : Meaning) → length parts ≡ 0 → no_profile ≡ Some m →
    closing_parts limit (map (depth_of limit) parts) ≡ Some (depth_of limit m)
no_profile_is limit parts m n e =
    let shown : List Meaning = [] in
    let s : parts ≡ shown = shape0 parts n in
    let x : Meaning = maybe_profile None in
    row limit (closing_parts limit) parts shown x m s e (closes limit shown x refl refl)

pub some_profile_is : (limit : ℕ) (parts : List Meaning) (m : Meaning) → length parts ≡ 1 → some_profile parts ≡ Some m →
    closing_parts limit (map (depth_of limit) parts) ≡ Some (depth_of limit m)
some_profile_is limit parts m n e =
    let i1 = and_then_some (next_in meant_profile parts) _ m e in
    let e1 = taken meant_profile a_profile profile_in_is parts i1.0 i1.1 in
    let profile = i1.0.0 in
    let shown : List Meaning = a_profile profile ∷ [] in
    let s : parts ≡ shown = shape1 parts (a_profile profile) i1.0.1 e1 n in
    let x : Meaning = maybe_profile (Some profile) in
    row limit (closing_parts limit) parts shown x m s i1.2 (closes limit shown x refl refl)

pub no_status_is : (limit : ℕ) (parts : List Meaning) (m : Meaning) → length parts ≡ 0 → no_status ≡ Some m →
    closing_parts limit (map (depth_of limit) parts) ≡ Some (depth_of limit m)
no_status_is limit parts m n e =
    let shown : List Meaning = [] in
    let s : parts ≡ shown = shape0 parts n in
    let x : Meaning = maybe_name None in
    row limit (closing_parts limit) parts shown x m s e (closes limit shown x refl refl)

pub some_status_is : (limit : ℕ) (parts : List Meaning) (m : Meaning) → length parts ≡ 1 → some_status parts ≡ Some m →
    closing_parts limit (map (depth_of limit) parts) ≡ Some (depth_of limit m)
some_status_is limit parts m n e =
    let i1 = and_then_some (next_in meant_name parts) _ m e in
    let e1 = taken meant_name a_name name_in_is parts i1.0 i1.1 in
    let status = i1.0.0 in
    let shown : List Meaning = a_name status ∷ [] in
    let s : parts ≡ shown = shape1 parts (a_name status) i1.0.1 e1 n in
    let x : Meaning = maybe_name (Some status) in
    row limit (closing_parts limit) parts shown x m s i1.2 (closes limit shown x refl refl)

pub specification_of_parts_is : (limit : ℕ) (parts : List Meaning) (m : Meaning) → length parts ≡ 5
    → specification_of_parts parts ≡ Some m →
    closing_parts limit (map (depth_of limit) parts) ≡ Some (depth_of limit m)
specification_of_parts_is limit parts m n e =
    let i1 = and_then_some (next_in meant_heading parts) _ m e in
    let e1 = taken meant_heading a_heading heading_in_is parts i1.0 i1.1 in
    let heading = i1.0.0 in
    let i2 = and_then_some (next_in meant_items i1.0.1) _ m i1.2 in
    let e2 = taken meant_items some_items items_in_is i1.0.1 i2.0 i2.1 in
    let items = i2.0.0 in
    let i3 = and_then_some (next_in meant_word i2.0.1) _ m i2.2 in
    let e3 = taken meant_word a_word word_in_is i2.0.1 i3.0 i3.1 in
    let word = i3.0.0 in
    let i4 = and_then_some (next_in meant_operands i3.0.1) _ m i3.2 in
    let e4 = taken meant_operands some_operands operands_in_is i3.0.1 i4.0 i4.1 in
    let flat = i4.0.0 in
    let i5 = and_then_some (next_in meant_inner i4.0.1) _ m i4.2 in
    let e5 = taken meant_inner some_inner inner_in_is i4.0.1 i5.0 i5.1 in
    let inner = i5.0.0 in
    let i6 = and_then_some (grouped strength_of joined_by_sign flat.operands flat.signs) _ m i5.2 in
    let body = i6.0 in
    let shown : List Meaning = a_heading heading ∷ some_items items ∷ a_word word ∷ some_operands flat ∷ some_inner inner ∷ [] in
    let s : parts ≡ shown = shape5 parts (a_heading heading) (some_items items) (a_word word) (some_operands flat) (some_inner inner) i1.0.1
    i2.0.1 i3.0.1 i4.0.1 i5.0.1 e1 e2 e3 e4 e5 n in
    let x : Meaning = a_specification (record { heading = heading; items = items; body = body; inner = inner }) in
    let declared = flat_map nodes_of_item items in
    let own = behaviour_nodes 1 body in
    let more = nodes_of_inners (inners_of inner) in
    let p = λ (it : Meaning). depth_of limit it in
    row limit (closing_parts limit) parts shown x m s i6.2
    (ap (λ it. Some (of_firsts it))
    (one_more_closed limit (p (a_heading heading))
    (p (some_items items) ∷ p (a_word word) ∷ p (some_operands flat) ∷ p (some_inner inner) ∷ []) []
    (declared ++ (own ++ (more ++ []))) (closed_is limit (a_heading heading) refl)
    (one_more_closed limit (p (some_items items)) (p (a_word word) ∷ p (some_operands flat) ∷ p (some_inner inner) ∷ []) declared
    (own ++ (more ++ [])) (closed_is limit (some_items items) refl)
    (one_more_closed limit (p (a_word word)) (p (some_operands flat) ∷ p (some_inner inner) ∷ []) [] (own ++ (more ++ []))
    (closed_is limit (a_word word) refl)
    (one_more_closed limit (p (some_operands flat)) (p (some_inner inner) ∷ []) own (more ++ []) (closed_flat limit flat body i6.1)
    (one_more_closed limit (p (some_inner inner)) [] more [] (closed_is limit (some_inner inner) refl) refl))))
    ∙ ap (λ it. everywhere (first_deeper limit (declared ++ (own ++ it)))) (append-nil more)))
