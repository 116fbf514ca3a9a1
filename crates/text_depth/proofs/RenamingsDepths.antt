-- What the rows of renamings keep is what is kept of what they mean.
use Rattle.std.proofs.Common.{◌≡◌, ℕ, List, [], ◌∷◌, map, length, Some, refl}
use Rattle.lotos_rows.specs.Renamings.{pair_of_names}
use Rattle.tree_building.specs.Meaning.{a_name, an_operation, both_pairs, some_pairs, Meaning}
use Rattle.tree_building.specs.Parts.{next_in, meant_name, meant_operation, meant_pairs}
use Rattle.tree_building.specs.RenamingsMeaning.{pairs_of_both, no_pairs, same_pairs, sort_pair_before_pairs, operation_pair_before_pairs}
use Rattle.text_depth.specs.DepthPart.{depth_of}
use Rattle.text_depth.specs.RowDepth.{closing_parts}
use Rattle.text_depth.proofs.Inversions.{and_then_some, taken, shape0, shape1, shape2, shape3, name_in_is, operation_in_is, pairs_in_is}
use Rattle.text_depth.proofs.Facts.{row, closes}

pub pairs_of_both_is : (limit : ℕ) (parts : List Meaning) (m : Meaning) → length parts ≡ 2 → pairs_of_both parts ≡ Some m →
    closing_parts limit (map (depth_of limit) parts) ≡ Some (depth_of limit m)
pairs_of_both_is limit parts m n e =
    let i1 = and_then_some (next_in meant_pairs parts) _ m e in
    let e1 = taken meant_pairs some_pairs pairs_in_is parts i1.0 i1.1 in
    let sorts = i1.0.0 in
    let i2 = and_then_some (next_in meant_pairs i1.0.1) _ m i1.2 in
    let e2 = taken meant_pairs some_pairs pairs_in_is i1.0.1 i2.0 i2.1 in
    let operations = i2.0.0 in
    let shown : List Meaning = some_pairs sorts ∷ some_pairs operations ∷ [] in
    let s : parts ≡ shown = shape2 parts (some_pairs sorts) (some_pairs operations) i1.0.1 i2.0.1 e1 e2 n in
    let x : Meaning = both_pairs (record { sort_pairs = sorts; operation_pairs = operations }) in
    row limit (closing_parts limit) parts shown x m s i2.2 (closes limit shown x refl refl)

pub no_pairs_is : (limit : ℕ) (parts : List Meaning) (m : Meaning) → length parts ≡ 0 → no_pairs ≡ Some m →
    closing_parts limit (map (depth_of limit) parts) ≡ Some (depth_of limit m)
no_pairs_is limit parts m n e =
    let shown : List Meaning = [] in
    let s : parts ≡ shown = shape0 parts n in
    let x : Meaning = some_pairs [] in
    row limit (closing_parts limit) parts shown x m s e (closes limit shown x refl refl)

pub same_pairs_is : (limit : ℕ) (parts : List Meaning) (m : Meaning) → length parts ≡ 1 → same_pairs parts ≡ Some m →
    closing_parts limit (map (depth_of limit) parts) ≡ Some (depth_of limit m)
same_pairs_is limit parts m n e =
    let i1 = and_then_some (next_in meant_pairs parts) _ m e in
    let e1 = taken meant_pairs some_pairs pairs_in_is parts i1.0 i1.1 in
    let pairs = i1.0.0 in
    let shown : List Meaning = some_pairs pairs ∷ [] in
    let s : parts ≡ shown = shape1 parts (some_pairs pairs) i1.0.1 e1 n in
    let x : Meaning = some_pairs pairs in
    row limit (closing_parts limit) parts shown x m s i1.2 (closes limit shown x refl refl)

pub sort_pair_before_pairs_is : (limit : ℕ) (parts : List Meaning) (m : Meaning) → length parts ≡ 3
    → sort_pair_before_pairs parts ≡ Some m →
    closing_parts limit (map (depth_of limit) parts) ≡ Some (depth_of limit m)
sort_pair_before_pairs_is limit parts m n e =
    let i1 = and_then_some (next_in meant_name parts) _ m e in
    let e1 = taken meant_name a_name name_in_is parts i1.0 i1.1 in
    let given = i1.0.0 in
    let i2 = and_then_some (next_in meant_name i1.0.1) _ m i1.2 in
    let e2 = taken meant_name a_name name_in_is i1.0.1 i2.0 i2.1 in
    let replaced = i2.0.0 in
    let i3 = and_then_some (next_in meant_pairs i2.0.1) _ m i2.2 in
    let e3 = taken meant_pairs some_pairs pairs_in_is i2.0.1 i3.0 i3.1 in
    let more = i3.0.0 in
    let shown : List Meaning = a_name given ∷ a_name replaced ∷ some_pairs more ∷ [] in
    let s : parts ≡ shown = shape3 parts (a_name given) (a_name replaced) (some_pairs more) i1.0.1 i2.0.1 i3.0.1 e1 e2 e3 n in
    let x : Meaning = some_pairs (pair_of_names given replaced ∷ more) in
    row limit (closing_parts limit) parts shown x m s i3.2 (closes limit shown x refl refl)

pub operation_pair_before_pairs_is : (limit : ℕ) (parts : List Meaning) (m : Meaning) → length parts ≡ 3
    → operation_pair_before_pairs parts ≡ Some m →
    closing_parts limit (map (depth_of limit) parts) ≡ Some (depth_of limit m)
operation_pair_before_pairs_is limit parts m n e =
    let i1 = and_then_some (next_in meant_operation parts) _ m e in
    let e1 = taken meant_operation an_operation operation_in_is parts i1.0 i1.1 in
    let given = i1.0.0 in
    let i2 = and_then_some (next_in meant_operation i1.0.1) _ m i1.2 in
    let e2 = taken meant_operation an_operation operation_in_is i1.0.1 i2.0 i2.1 in
    let replaced = i2.0.0 in
    let i3 = and_then_some (next_in meant_pairs i2.0.1) _ m i2.2 in
    let e3 = taken meant_pairs some_pairs pairs_in_is i2.0.1 i3.0 i3.1 in
    let more = i3.0.0 in
    let shown : List Meaning = an_operation given ∷ an_operation replaced ∷ some_pairs more ∷ [] in
    let s : parts ≡ shown = shape3 parts (an_operation given) (an_operation replaced) (some_pairs more) i1.0.1 i2.0.1 i3.0.1 e1 e2 e3 n in
    let x : Meaning = some_pairs (pair_of_names given.name replaced.name ∷ more) in
    row limit (closing_parts limit) parts shown x m s i3.2 (closes limit shown x refl refl)
