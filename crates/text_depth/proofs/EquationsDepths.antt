-- What the rows of equations keep is what is kept of what they mean.
use Rattle.std.proofs.Common.{◌≡◌, ◌∙◌, ℕ, List, [], ◌∷◌, map, length, Some, None, refl, ap, append-nil, append_assoc}
use Rattle.std.specs.Prelude.{Option}
use Rattle.lotos_lexer.specs.declared.tokens.Token.{Token}
use Rattle.lotos_base.specs.WrittenTerm.{WrittenTerm}
use Rattle.lotos_lexer.specs.declared.tokens.Token.{Token}
use Rattle.lotos_rows.specs.Names.{place_of}
use Rattle.tree_building.specs.Meaning.{PlainStartedTerm, PlainConclusion, a_conclusion, a_name, a_premiss, a_term, after_term, an_equation, maybe_conclusion, maybe_term, some_equations, some_groups, some_variables, Meaning}
use Rattle.tree_building.specs.Parts.{next_in, meant_after_term, meant_conclusion, meant_equation, meant_equations, meant_groups, meant_maybe_conclusion, meant_maybe_term, meant_name, meant_premiss, meant_term, meant_variables}
use Rattle.tree_building.specs.EquationsMeaning.{no_groups, group_before_groups, no_equations_listed, same_equations, equation_before_equations, first_premiss, equation_with_premisses, equation_from, equation_of_term, equals_after_term, conclusion_after_term, no_conclusion, some_conclusion, premiss_before_conclusion, conclusion_of_terms, premiss_of_term, no_right_side, some_right_side}
use Rattle.text_depth.specs.DepthPart.{depth_of}
use Rattle.text_depth.specs.RowDepth.{closing_parts}
use Rattle.text_depth.proofs.Inversions.{and_then_some, taken, shape0, shape1, shape2, shape4, after_term_in_is, conclusion_in_is, equation_in_is, equations_in_is, groups_in_is, maybe_conclusion_in_is, maybe_term_in_is, name_in_is, premiss_in_is, term_in_is, variables_in_is}
use Rattle.text_depth.proofs.Facts.{row, closes}

pub no_groups_is : (limit : ℕ) (parts : List Meaning) (m : Meaning) → length parts ≡ 0 → no_groups ≡ Some m →
    closing_parts limit (map (depth_of limit) parts) ≡ Some (depth_of limit m)
no_groups_is limit parts m n e =
    let shown : List Meaning = [] in
    let s : parts ≡ shown = shape0 parts n in
    let x : Meaning = some_groups [] in
    row limit (closing_parts limit) parts shown x m s e (closes limit shown x refl refl)

pub group_before_groups_is : (limit : ℕ) (parts : List Meaning) (m : Meaning) → length parts ≡ 4 → group_before_groups parts ≡ Some m →
    closing_parts limit (map (depth_of limit) parts) ≡ Some (depth_of limit m)
group_before_groups_is limit parts m n e =
    let i1 = and_then_some (next_in meant_name parts) _ m e in
    let e1 = taken meant_name a_name name_in_is parts i1.0 i1.1 in
    let sort = i1.0.0 in
    let i2 = and_then_some (next_in meant_variables i1.0.1) _ m i1.2 in
    let e2 = taken meant_variables some_variables variables_in_is i1.0.1 i2.0 i2.1 in
    let variables = i2.0.0 in
    let i3 = and_then_some (next_in meant_equations i2.0.1) _ m i2.2 in
    let e3 = taken meant_equations some_equations equations_in_is i2.0.1 i3.0 i3.1 in
    let equations = i3.0.0 in
    let i4 = and_then_some (next_in meant_groups i3.0.1) _ m i3.2 in
    let e4 = taken meant_groups some_groups groups_in_is i3.0.1 i4.0 i4.1 in
    let groups = i4.0.0 in
    let shown : List Meaning = a_name sort ∷ some_variables variables ∷ some_equations equations ∷ some_groups groups ∷ [] in
    let s : parts ≡ shown = shape4 parts (a_name sort) (some_variables variables) (some_equations equations) (some_groups groups) i1.0.1
    i2.0.1 i3.0.1 i4.0.1 e1 e2 e3 e4 n in
    let x : Meaning = some_groups (record { place = sort.place; sort = sort.name; variables = variables; equations = equations }
    ∷ groups) in
    row limit (closing_parts limit) parts shown x m s i4.2 (closes limit shown x refl (simp (append-nil, append_assoc)))

pub no_equations_listed_is : (limit : ℕ) (parts : List Meaning) (m : Meaning) → length parts ≡ 0 → no_equations_listed ≡ Some m →
    closing_parts limit (map (depth_of limit) parts) ≡ Some (depth_of limit m)
no_equations_listed_is limit parts m n e =
    let shown : List Meaning = [] in
    let s : parts ≡ shown = shape0 parts n in
    let x : Meaning = some_equations [] in
    row limit (closing_parts limit) parts shown x m s e (closes limit shown x refl refl)

pub same_equations_is : (limit : ℕ) (parts : List Meaning) (m : Meaning) → length parts ≡ 1 → same_equations parts ≡ Some m →
    closing_parts limit (map (depth_of limit) parts) ≡ Some (depth_of limit m)
same_equations_is limit parts m n e =
    let i1 = and_then_some (next_in meant_equations parts) _ m e in
    let e1 = taken meant_equations some_equations equations_in_is parts i1.0 i1.1 in
    let equations = i1.0.0 in
    let shown : List Meaning = some_equations equations ∷ [] in
    let s : parts ≡ shown = shape1 parts (some_equations equations) i1.0.1 e1 n in
    let x : Meaning = some_equations equations in
    row limit (closing_parts limit) parts shown x m s i1.2 (closes limit shown x refl (simp (append-nil, append_assoc)))

pub equation_before_equations_is : (limit : ℕ) (parts : List Meaning) (m : Meaning) → length parts ≡ 2
    → equation_before_equations parts ≡ Some m →
    closing_parts limit (map (depth_of limit) parts) ≡ Some (depth_of limit m)
equation_before_equations_is limit parts m n e =
    let i1 = and_then_some (next_in meant_equation parts) _ m e in
    let e1 = taken meant_equation an_equation equation_in_is parts i1.0 i1.1 in
    let equation = i1.0.0 in
    let i2 = and_then_some (next_in meant_equations i1.0.1) _ m i1.2 in
    let e2 = taken meant_equations some_equations equations_in_is i1.0.1 i2.0 i2.1 in
    let more = i2.0.0 in
    let shown : List Meaning = an_equation equation ∷ some_equations more ∷ [] in
    let s : parts ≡ shown = shape2 parts (an_equation equation) (some_equations more) i1.0.1 i2.0.1 e1 e2 n in
    let x : Meaning = some_equations (equation ∷ more) in
    row limit (closing_parts limit) parts shown x m s i2.2 (closes limit shown x refl (simp (append-nil, append_assoc)))

pub equals_after_term_is : (limit : ℕ) (parts : List Meaning) (m : Meaning) → length parts ≡ 2 → equals_after_term parts ≡ Some m →
    closing_parts limit (map (depth_of limit) parts) ≡ Some (depth_of limit m)
equals_after_term_is limit parts m n e =
    let i1 = and_then_some (next_in meant_term parts) _ m e in
    let e1 = taken meant_term a_term term_in_is parts i1.0 i1.1 in
    let right = i1.0.0 in
    let i2 = and_then_some (next_in meant_maybe_conclusion i1.0.1) _ m i1.2 in
    let e2 = taken meant_maybe_conclusion maybe_conclusion maybe_conclusion_in_is i1.0.1 i2.0 i2.1 in
    let conclusion = i2.0.0 in
    let shown : List Meaning = a_term right ∷ maybe_conclusion conclusion ∷ [] in
    let s : parts ≡ shown = shape2 parts (a_term right) (maybe_conclusion conclusion) i1.0.1 i2.0.1 e1 e2 n in
    let x : Meaning = after_term (record { right = Some right.term; conclusion = conclusion }) in
    row limit (closing_parts limit) parts shown x m s i2.2 (closes limit shown x refl (simp (append-nil, append_assoc)))

pub conclusion_after_term_is : (limit : ℕ) (parts : List Meaning) (m : Meaning) → length parts ≡ 1 → conclusion_after_term parts ≡ Some m →
    closing_parts limit (map (depth_of limit) parts) ≡ Some (depth_of limit m)
conclusion_after_term_is limit parts m n e =
    let i1 = and_then_some (next_in meant_conclusion parts) _ m e in
    let e1 = taken meant_conclusion a_conclusion conclusion_in_is parts i1.0 i1.1 in
    let conclusion = i1.0.0 in
    let shown : List Meaning = a_conclusion conclusion ∷ [] in
    let s : parts ≡ shown = shape1 parts (a_conclusion conclusion) i1.0.1 e1 n in
    let x : Meaning = after_term (record { right = None; conclusion = Some conclusion }) in
    row limit (closing_parts limit) parts shown x m s i1.2 (closes limit shown x refl (simp (append-nil, append_assoc)))

pub no_conclusion_is : (limit : ℕ) (parts : List Meaning) (m : Meaning) → length parts ≡ 0 → no_conclusion ≡ Some m →
    closing_parts limit (map (depth_of limit) parts) ≡ Some (depth_of limit m)
no_conclusion_is limit parts m n e =
    let shown : List Meaning = [] in
    let s : parts ≡ shown = shape0 parts n in
    let x : Meaning = maybe_conclusion None in
    row limit (closing_parts limit) parts shown x m s e (closes limit shown x refl refl)

pub some_conclusion_is : (limit : ℕ) (parts : List Meaning) (m : Meaning) → length parts ≡ 1 → some_conclusion parts ≡ Some m →
    closing_parts limit (map (depth_of limit) parts) ≡ Some (depth_of limit m)
some_conclusion_is limit parts m n e =
    let i1 = and_then_some (next_in meant_conclusion parts) _ m e in
    let e1 = taken meant_conclusion a_conclusion conclusion_in_is parts i1.0 i1.1 in
    let conclusion = i1.0.0 in
    let shown : List Meaning = a_conclusion conclusion ∷ [] in
    let s : parts ≡ shown = shape1 parts (a_conclusion conclusion) i1.0.1 e1 n in
    let x : Meaning = maybe_conclusion (Some conclusion) in
    row limit (closing_parts limit) parts shown x m s i1.2 (closes limit shown x refl (simp (append-nil, append_assoc)))

pub premiss_before_conclusion_is : (limit : ℕ) (parts : List Meaning) (m : Meaning) → length parts ≡ 2
    → premiss_before_conclusion parts ≡ Some m →
    closing_parts limit (map (depth_of limit) parts) ≡ Some (depth_of limit m)
premiss_before_conclusion_is limit parts m n e =
    let i1 = and_then_some (next_in meant_premiss parts) _ m e in
    let e1 = taken meant_premiss a_premiss premiss_in_is parts i1.0 i1.1 in
    let premiss = i1.0.0 in
    let i2 = and_then_some (next_in meant_conclusion i1.0.1) _ m i1.2 in
    let e2 = taken meant_conclusion a_conclusion conclusion_in_is i1.0.1 i2.0 i2.1 in
    let conclusion = i2.0.0 in
    let shown : List Meaning = a_premiss premiss ∷ a_conclusion conclusion ∷ [] in
    let s : parts ≡ shown = shape2 parts (a_premiss premiss) (a_conclusion conclusion) i1.0.1 i2.0.1 e1 e2 n in
    let x : Meaning = a_conclusion (record {
      premisses = premiss ∷ conclusion.premisses;
      arrow = conclusion.arrow;
      left = conclusion.left;
      right = conclusion.right;
    }) in
    row limit (closing_parts limit) parts shown x m s i2.2 (closes limit shown x refl (simp (append-nil, append_assoc)))

pub conclusion_of_terms_is : (limit : ℕ) (token : Option Token) (parts : List Meaning) (m : Meaning) → length parts ≡ 2
    → conclusion_of_terms token parts ≡ Some m →
    closing_parts limit (map (depth_of limit) parts) ≡ Some (depth_of limit m)
conclusion_of_terms_is limit token parts m n e =
    let i1 = and_then_some token _ m e in
    let arrow = i1.0 in
    let i2 = and_then_some (next_in meant_term parts) _ m i1.2 in
    let e2 = taken meant_term a_term term_in_is parts i2.0 i2.1 in
    let left = i2.0.0 in
    let i3 = and_then_some (next_in meant_term i2.0.1) _ m i2.2 in
    let e3 = taken meant_term a_term term_in_is i2.0.1 i3.0 i3.1 in
    let right = i3.0.0 in
    let shown : List Meaning = a_term left ∷ a_term right ∷ [] in
    let s : parts ≡ shown = shape2 parts (a_term left) (a_term right) i2.0.1 i3.0.1 e2 e3 n in
    let x : Meaning = a_conclusion (record { premisses = []; arrow = place_of arrow; left = left.term; right = right.term }) in
    row limit (closing_parts limit) parts shown x m s i3.2 (closes limit shown x refl (simp (append-nil, append_assoc)))

pub premiss_of_term_is : (limit : ℕ) (parts : List Meaning) (m : Meaning) → length parts ≡ 2 → premiss_of_term parts ≡ Some m →
    closing_parts limit (map (depth_of limit) parts) ≡ Some (depth_of limit m)
premiss_of_term_is limit parts m n e =
    let i1 = and_then_some (next_in meant_term parts) _ m e in
    let e1 = taken meant_term a_term term_in_is parts i1.0 i1.1 in
    let left = i1.0.0 in
    let i2 = and_then_some (next_in meant_maybe_term i1.0.1) _ m i1.2 in
    let e2 = taken meant_maybe_term maybe_term maybe_term_in_is i1.0.1 i2.0 i2.1 in
    let right = i2.0.0 in
    let shown : List Meaning = a_term left ∷ maybe_term right ∷ [] in
    let s : parts ≡ shown = shape2 parts (a_term left) (maybe_term right) i1.0.1 i2.0.1 e1 e2 n in
    let x : Meaning = a_premiss (first_premiss left right) in
    row limit (closing_parts limit) parts shown x m s i2.2 (closes limit shown x refl (simp (append-nil, append_assoc)))

pub no_right_side_is : (limit : ℕ) (parts : List Meaning) (m : Meaning) → length parts ≡ 0 → no_right_side ≡ Some m →
    closing_parts limit (map (depth_of limit) parts) ≡ Some (depth_of limit m)
no_right_side_is limit parts m n e =
    let shown : List Meaning = [] in
    let s : parts ≡ shown = shape0 parts n in
    let x : Meaning = maybe_term None in
    row limit (closing_parts limit) parts shown x m s e (closes limit shown x refl refl)

pub some_right_side_is : (limit : ℕ) (parts : List Meaning) (m : Meaning) → length parts ≡ 1 → some_right_side parts ≡ Some m →
    closing_parts limit (map (depth_of limit) parts) ≡ Some (depth_of limit m)
some_right_side_is limit parts m n e =
    let i1 = and_then_some (next_in meant_term parts) _ m e in
    let e1 = taken meant_term a_term term_in_is parts i1.0 i1.1 in
    let right = i1.0.0 in
    let shown : List Meaning = a_term right ∷ [] in
    let s : parts ≡ shown = shape1 parts (a_term right) i1.0.1 e1 n in
    let x : Meaning = maybe_term (Some right.term) in
    row limit (closing_parts limit) parts shown x m s i1.2 (closes limit shown x refl (simp (append-nil, append_assoc)))

equation_nodes : (limit : ℕ) (first : PlainStartedTerm) (right : Option WrittenTerm) (conclusion : Option PlainConclusion) (m : Meaning) →
    equation_from first right conclusion ≡ Some m →
    closing_parts limit (map (depth_of limit) (a_term first ∷ after_term (record { right = right; conclusion = conclusion }) ∷ []))
    ≡ Some (depth_of limit m)
equation_nodes limit first right (Some conclusion) m e =
    let shown : List Meaning = a_term first ∷ after_term (record { right = right; conclusion = Some conclusion }) ∷ [] in
    row limit (closing_parts limit) shown shown (an_equation (equation_with_premisses first right conclusion)) m refl e
    (closes limit shown (an_equation (equation_with_premisses first right conclusion)) refl (simp (append-nil, append_assoc)))
equation_nodes limit first (Some right) None m e =
    let shown : List Meaning = a_term first ∷ after_term (record { right = Some right; conclusion = None }) ∷ [] in
    let x : Meaning = an_equation (record { place = first.start; premisses = []; arrow = None; left = first.term; right = right }) in
    row limit (closing_parts limit) shown shown x m refl e (closes limit shown x refl (simp (append-nil, append_assoc)))
equation_nodes limit first None None m e = let none : None ≡ Some m = e in absurd (cc)

pub equation_of_term_is : (limit : ℕ) (parts : List Meaning) (m : Meaning) → length parts ≡ 2 → equation_of_term parts ≡ Some m →
    closing_parts limit (map (depth_of limit) parts) ≡ Some (depth_of limit m)
equation_of_term_is limit parts m n e =
    let i1 = and_then_some (next_in meant_term parts) _ m e in
    let e1 = taken meant_term a_term term_in_is parts i1.0 i1.1 in
    let i2 = and_then_some (next_in meant_after_term i1.0.1) _ m i1.2 in
    let e2 = taken meant_after_term after_term after_term_in_is i1.0.1 i2.0 i2.1 in
    let s = shape2 parts (a_term i1.0.0) (after_term i2.0.0) i1.0.1 i2.0.1 e1 e2 n in
    ap (λ it. closing_parts limit (map (depth_of limit) it)) s ∙ equation_nodes limit i1.0.0 i2.0.0.right i2.0.0.conclusion m i2.2
