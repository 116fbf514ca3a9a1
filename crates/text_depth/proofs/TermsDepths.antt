-- What the rows of terms keep is what is kept of what they mean.
use Rattle.std.proofs.Common.{◌≡◌, ℕ, List, [], ◌∷◌, map, length, Some, refl, ap, sym}
use Rattle.std.specs.Prelude.{Option}
use Rattle.lotos_lexer.specs.declared.tokens.Token.{Token}
use Rattle.lotos_lexer.specs.declared.tokens.Token.{Token}
use Rattle.syntax_trees.specs.LeftGrouping.{grouped_left}
use Rattle.lotos_rows.specs.Names.{place_of}
use Rattle.lotos_rows.specs.Terms.{applied, infix_term}
use Rattle.tree_building.specs.Meaning.{a_name, a_term, some_factors, some_names, some_terms, Meaning}
use Rattle.tree_building.specs.Parts.{next_in, meant_factors, meant_name, meant_names, meant_term, meant_terms}
use Rattle.tree_building.specs.TermsMeaning.{with_written_sorts, term_of_factors, no_factors, factor_before_factors, applied_factor, bracketed_factor, no_terms, same_terms, term_before_terms}
use Rattle.text_depth.specs.DepthPart.{of_firsts, depth_of}
use Rattle.text_depth.specs.RowDepth.{parts_together, left_grouped, factor_first, applied_name, bracketed_term}
use Rattle.text_depth.proofs.Inversions.{and_then_some, taken, shape0, shape1, shape2, shape3, factors_in_is, name_in_is, names_in_is, term_in_is, terms_in_is}
use Rattle.text_depth.proofs.Facts.{row, with_sorts_firsts, applied_firsts, factors_firsts}

pub term_of_factors_is : (limit : ℕ) (parts : List Meaning) (m : Meaning) → length parts ≡ 2 → term_of_factors parts ≡ Some m →
    left_grouped (map (depth_of limit) parts) ≡ Some (depth_of limit m)
term_of_factors_is limit parts m n e =
    let i1 = and_then_some (next_in meant_term parts) _ m e in
    let e1 = taken meant_term a_term term_in_is parts i1.0 i1.1 in
    let first = i1.0.0 in
    let i2 = and_then_some (next_in meant_factors i1.0.1) _ m i1.2 in
    let e2 = taken meant_factors some_factors factors_in_is i1.0.1 i2.0 i2.1 in
    let more = i2.0.0 in
    let shown : List Meaning = a_term first ∷ some_factors more ∷ [] in
    let s : parts ≡ shown = shape2 parts (a_term first) (some_factors more) i1.0.1 i2.0.1 e1 e2 n in
    let x : Meaning = a_term (record { start = first.start; term = grouped_left infix_term first.term more }) in
    row limit (left_grouped) parts shown x m s i2.2 (ap (λ it. Some (of_firsts it)) (factors_firsts first.term more))

pub no_factors_is : (limit : ℕ) (parts : List Meaning) (m : Meaning) → length parts ≡ 0 → no_factors ≡ Some m →
    parts_together (map (depth_of limit) parts) ≡ Some (depth_of limit m)
no_factors_is limit parts m n e =
    let shown : List Meaning = [] in
    let s : parts ≡ shown = shape0 parts n in
    let x : Meaning = some_factors [] in
    row limit (parts_together) parts shown x m s e (refl)

pub factor_before_factors_is : (limit : ℕ) (parts : List Meaning) (m : Meaning) → length parts ≡ 3 → factor_before_factors parts ≡ Some m →
    factor_first (map (depth_of limit) parts) ≡ Some (depth_of limit m)
factor_before_factors_is limit parts m n e =
    let i1 = and_then_some (next_in meant_name parts) _ m e in
    let e1 = taken meant_name a_name name_in_is parts i1.0 i1.1 in
    let operation = i1.0.0 in
    let i2 = and_then_some (next_in meant_term i1.0.1) _ m i1.2 in
    let e2 = taken meant_term a_term term_in_is i1.0.1 i2.0 i2.1 in
    let factor = i2.0.0 in
    let i3 = and_then_some (next_in meant_factors i2.0.1) _ m i2.2 in
    let e3 = taken meant_factors some_factors factors_in_is i2.0.1 i3.0 i3.1 in
    let more = i3.0.0 in
    let shown : List Meaning = a_name operation ∷ a_term factor ∷ some_factors more ∷ [] in
    let s : parts ≡ shown = shape3 parts (a_name operation) (a_term factor) (some_factors more) i1.0.1 i2.0.1 i3.0.1 e1 e2 e3 n in
    let x : Meaning = some_factors ((operation, factor.term) ∷ more) in
    row limit (factor_first) parts shown x m s i3.2 (refl)

pub applied_factor_is : (limit : ℕ) (parts : List Meaning) (m : Meaning) → length parts ≡ 3 → applied_factor parts ≡ Some m →
    applied_name (map (depth_of limit) parts) ≡ Some (depth_of limit m)
applied_factor_is limit parts m n e =
    let i1 = and_then_some (next_in meant_name parts) _ m e in
    let e1 = taken meant_name a_name name_in_is parts i1.0 i1.1 in
    let name = i1.0.0 in
    let i2 = and_then_some (next_in meant_terms i1.0.1) _ m i1.2 in
    let e2 = taken meant_terms some_terms terms_in_is i1.0.1 i2.0 i2.1 in
    let arguments = i2.0.0 in
    let i3 = and_then_some (next_in meant_names i2.0.1) _ m i2.2 in
    let e3 = taken meant_names some_names names_in_is i2.0.1 i3.0 i3.1 in
    let mark = i3.0.0 in
    let shown : List Meaning = a_name name ∷ some_terms arguments ∷ some_names mark ∷ [] in
    let s : parts ≡ shown = shape3 parts (a_name name) (some_terms arguments) (some_names mark) i1.0.1 i2.0.1 i3.0.1 e1 e2 e3 n in
    let x : Meaning = a_term (record { start = name.place; term = with_written_sorts mark (applied name arguments) }) in
    row limit (applied_name) parts shown x m s i3.2 (ap (λ it. Some (of_firsts it)) (sym (applied_firsts name mark arguments)))

pub bracketed_factor_is : (limit : ℕ) (token : Option Token) (parts : List Meaning) (m : Meaning) → length parts ≡ 2
    → bracketed_factor token parts ≡ Some m →
    bracketed_term (map (depth_of limit) parts) ≡ Some (depth_of limit m)
bracketed_factor_is limit token parts m n e =
    let i1 = and_then_some token _ m e in
    let left = i1.0 in
    let i2 = and_then_some (next_in meant_term parts) _ m i1.2 in
    let e2 = taken meant_term a_term term_in_is parts i2.0 i2.1 in
    let inside = i2.0.0 in
    let i3 = and_then_some (next_in meant_names i2.0.1) _ m i2.2 in
    let e3 = taken meant_names some_names names_in_is i2.0.1 i3.0 i3.1 in
    let mark = i3.0.0 in
    let shown : List Meaning = a_term inside ∷ some_names mark ∷ [] in
    let s : parts ≡ shown = shape2 parts (a_term inside) (some_names mark) i2.0.1 i3.0.1 e2 e3 n in
    let x : Meaning = a_term (record { start = place_of left; term = with_written_sorts mark inside.term }) in
    row limit (bracketed_term) parts shown x m s i3.2 (ap (λ it. Some (of_firsts it)) (sym (with_sorts_firsts mark inside.term)))

pub no_terms_is : (limit : ℕ) (parts : List Meaning) (m : Meaning) → length parts ≡ 0 → no_terms ≡ Some m →
    parts_together (map (depth_of limit) parts) ≡ Some (depth_of limit m)
no_terms_is limit parts m n e =
    let shown : List Meaning = [] in
    let s : parts ≡ shown = shape0 parts n in
    let x : Meaning = some_terms [] in
    row limit (parts_together) parts shown x m s e (refl)

pub same_terms_is : (limit : ℕ) (parts : List Meaning) (m : Meaning) → length parts ≡ 1 → same_terms parts ≡ Some m →
    parts_together (map (depth_of limit) parts) ≡ Some (depth_of limit m)
same_terms_is limit parts m n e =
    let i1 = and_then_some (next_in meant_terms parts) _ m e in
    let e1 = taken meant_terms some_terms terms_in_is parts i1.0 i1.1 in
    let terms = i1.0.0 in
    let shown : List Meaning = some_terms terms ∷ [] in
    let s : parts ≡ shown = shape1 parts (some_terms terms) i1.0.1 e1 n in
    let x : Meaning = some_terms terms in
    row limit (parts_together) parts shown x m s i1.2 (refl)

pub term_before_terms_is : (limit : ℕ) (parts : List Meaning) (m : Meaning) → length parts ≡ 2 → term_before_terms parts ≡ Some m →
    parts_together (map (depth_of limit) parts) ≡ Some (depth_of limit m)
term_before_terms_is limit parts m n e =
    let i1 = and_then_some (next_in meant_term parts) _ m e in
    let e1 = taken meant_term a_term term_in_is parts i1.0 i1.1 in
    let first = i1.0.0 in
    let i2 = and_then_some (next_in meant_terms i1.0.1) _ m i1.2 in
    let e2 = taken meant_terms some_terms terms_in_is i1.0.1 i2.0 i2.1 in
    let more = i2.0.0 in
    let shown : List Meaning = a_term first ∷ some_terms more ∷ [] in
    let s : parts ≡ shown = shape2 parts (a_term first) (some_terms more) i1.0.1 i2.0.1 e1 e2 n in
    let x : Meaning = some_terms (first.term ∷ more) in
    row limit (parts_together) parts shown x m s i2.2 (refl)
