-- What the rows of behaviours keep is what is kept of what they mean.
use Rattle.std.proofs.Common.{◌≡◌, ◌∙◌, ℕ, List, [], ◌∷◌, ◌++◌, map, length, Some, None, refl, ap, sym, inl, inr, append-nil, append_assoc, arith}
use Rattle.std.specs.Prelude.{Option}
use Rattle.lotos_base.specs.Equation.{Place}
use Rattle.lotos_lexer.specs.declared.tokens.Token.{Token}
use Rattle.lotos_base.specs.Equation as plain
use Rattle.lotos_base.specs.WrittenTerm.{PlacedName}
use Rattle.lotos_lexer.specs.declared.tokens.Token.{Token}
use Rattle.syntax_trees.specs.WrittenBehaviour.{WrittenSign, synchronising, enabling, exit_term, exit_any, offer_value, offer_variable, stop, exit, call, action, inner_action, guard, hide, let_be, choose_value, choose_gate, par_gate}
use Rattle.syntax_trees.specs.Strength.{strength_of, joined_by_sign}
use Rattle.syntax_trees.specs.Grouping.{grouped}
use Rattle.lotos_rows.specs.Names.{place_of, variables_of_sort}
use Rattle.lotos_rows.specs.Behaviours.{variable_named, gate_choices_among}
use Rattle.tree_building.specs.Meaning.{a_behaviour, a_call, a_gate_choice, a_name, a_premiss, a_sign, a_term, a_value_choice, an_action, some_exit_values, some_gate_choices, some_lets, some_names, some_offers, some_operands, some_terms, some_variables, Meaning}
use Rattle.tree_building.specs.Parts.{next_in, meant_action, meant_behaviour, meant_call, meant_exit_values, meant_gate_choice, meant_gate_choices, meant_lets, meant_name, meant_names, meant_offers, meant_operands, meant_premiss, meant_sign, meant_term, meant_terms, meant_value_choice, meant_variables}
use Rattle.tree_building.specs.BehavioursMeaning.{operand_alone, before_tail, prefixed, hidden, let_in, choice_of_values, choice_of_gates, choice_after_word, par_after_word, inner_prefixed, guarded, action_of_gate, call_of_process, name_first, stopped, exited, bracketed_behaviour, no_tail, sign_before_behaviour, action_without_offers, offers_before_action, action_with_selection, call_without_name, offer_of_value, offers_of_variables, no_exit_values, same_exit_values, any_before_exit_values, term_before_exit_values, let_before_lets, no_lets, same_lets, value_choice_end, gate_choice_end, chosen, gates_before_gate_choices, no_gate_choices, same_gate_choices, sign_of_token, same_sign, enabling_sign, gates_sign}
use Rattle.syntax_trees.specs.Strength.{strength}
use Rattle.syntax_trees.specs.Firsts.{everywhere, firsts_followed, firsts_below}
use Rattle.syntax_trees.specs.TreeFirsts.{names_firsts, behaviour_firsts}
use Rattle.syntax_trees.specs.Depth.{first_deeper}
use Rattle.text_depth.specs.MeaningNodes.{nodes_in}
use Rattle.text_depth.specs.DepthPart.{of_names, of_firsts, of_flat, gate_places, signs_strengths, operands_firsts, depth_of}
use Rattle.text_depth.specs.RowDepth.{closing_parts, parts_together, around_middle, one_operand, word_form, choice_form, par_form, inner_prefix, guard_prefix, terms_before, named_first, first_operand, call_end, stop_first, exit_first, bracket_first, end_of_choice, chosen_part, sign_part}
use Rattle.text_depth.proofs.Inversions.{and_then_some, map_some, or_else_some, taken, shape0, shape1, shape2, shape3, shape4, action_in_is, behaviour_in_is, call_in_is, exit_values_in_is, gate_choice_in_is, gate_choices_in_is, lets_in_is, name_in_is, names_in_is, offers_in_is, operands_in_is, premiss_in_is, sign_in_is, term_in_is, terms_in_is, value_choice_in_is, variables_in_is}
use Rattle.text_depth.proofs.Facts.{row, closes, grouped_is, terms_deeper, variables_together, gates_together, no_offered, inner_first, guard_first, action_first, nothing_first, offers_first}

pub hidden_is : (limit : ℕ) (token : Option Token) (parts : List Meaning) (m : Meaning) → length parts ≡ 2 → hidden token parts ≡ Some m →
    word_form token (map (depth_of limit) parts) ≡ Some (depth_of limit m)
hidden_is limit token parts m n e =
    let i1 = and_then_some token _ m e in
    let word = i1.0 in
    let i2 = and_then_some (next_in meant_names parts) _ m i1.2 in
    let e2 = taken meant_names some_names names_in_is parts i2.0 i2.1 in
    let gates = i2.0.0 in
    let i3 = and_then_some (next_in meant_operands i2.0.1) _ m i2.2 in
    let e3 = taken meant_operands some_operands operands_in_is i2.0.1 i3.0 i3.1 in
    let flat = i3.0.0 in
    let i4 = and_then_some (grouped strength_of joined_by_sign flat.operands flat.signs) _ m i3.2 in
    let inside = i4.0 in
    let inside_is = i4.1 in
    let shown : List Meaning = some_names gates ∷ some_operands flat ∷ [] in
    let s : parts ≡ shown = shape2 parts (some_names gates) (some_operands flat) i2.0.1 i3.0.1 e2 e3 n in
    let x : Meaning = operand_alone (hide (place_of word) gates inside) in
    row limit (word_form token) parts shown x m s i4.2 (ap (λ it. word_form it (map (depth_of limit) shown)) i1.1
    ∙ ap (λ it. one_operand (firsts_below (place_of word) it)) (grouped_is limit flat inside inside_is))

pub let_in_is : (limit : ℕ) (token : Option Token) (parts : List Meaning) (m : Meaning) → length parts ≡ 2 → let_in token parts ≡ Some m →
    word_form token (map (depth_of limit) parts) ≡ Some (depth_of limit m)
let_in_is limit token parts m n e =
    let i1 = and_then_some token _ m e in
    let word = i1.0 in
    let i2 = and_then_some (next_in meant_lets parts) _ m i1.2 in
    let e2 = taken meant_lets some_lets lets_in_is parts i2.0 i2.1 in
    let values = i2.0.0 in
    let i3 = and_then_some (next_in meant_operands i2.0.1) _ m i2.2 in
    let e3 = taken meant_operands some_operands operands_in_is i2.0.1 i3.0 i3.1 in
    let flat = i3.0.0 in
    let i4 = and_then_some (grouped strength_of joined_by_sign flat.operands flat.signs) _ m i3.2 in
    let inside = i4.0 in
    let inside_is = i4.1 in
    let shown : List Meaning = some_lets values ∷ some_operands flat ∷ [] in
    let s : parts ≡ shown = shape2 parts (some_lets values) (some_operands flat) i2.0.1 i3.0.1 e2 e3 n in
    let x : Meaning = operand_alone (let_be (place_of word) values inside) in
    row limit (word_form token) parts shown x m s i4.2 (ap (λ it. word_form it (map (depth_of limit) shown)) i1.1
    ∙ ap
    (λ it. one_operand (firsts_below (place_of word) (firsts_followed (everywhere (first_deeper limit (nodes_in (some_lets values)))) it)))
    (grouped_is limit flat inside inside_is))

pub par_after_word_is : (limit : ℕ) (token : Option Token) (parts : List Meaning) (m : Meaning) → length parts ≡ 3
    → par_after_word token parts ≡ Some m →
    par_form (map (depth_of limit) parts) ≡ Some (depth_of limit m)
par_after_word_is limit token parts m n e =
    let i1 = and_then_some token _ m e in
    let word = i1.0 in
    let i2 = and_then_some (next_in meant_gate_choices parts) _ m i1.2 in
    let e2 = taken meant_gate_choices some_gate_choices gate_choices_in_is parts i2.0 i2.1 in
    let gates = i2.0.0 in
    let i3 = and_then_some (next_in meant_sign i2.0.1) _ m i2.2 in
    let e3 = taken meant_sign a_sign sign_in_is i2.0.1 i3.0 i3.1 in
    let sign = i3.0.0 in
    let i4 = and_then_some (next_in meant_operands i3.0.1) _ m i3.2 in
    let e4 = taken meant_operands some_operands operands_in_is i3.0.1 i4.0 i4.1 in
    let flat = i4.0.0 in
    let i5 = and_then_some (grouped strength_of joined_by_sign flat.operands flat.signs) _ m i4.2 in
    let inside = i5.0 in
    let inside_is = i5.1 in
    let shown : List Meaning = some_gate_choices gates ∷ a_sign sign ∷ some_operands flat ∷ [] in
    let s : parts ≡ shown = shape3 parts (some_gate_choices gates) (a_sign sign) (some_operands flat) i2.0.1 i3.0.1 i4.0.1 e2 e3 e4 n in
    let x : Meaning = operand_alone (par_gate (place_of word) gates sign.sign inside) in
    row limit (par_form) parts shown x m s i5.2 (ap (λ it. one_operand (names_firsts (gate_places gates) it))
    (grouped_is limit flat inside inside_is))

pub inner_prefixed_is : (limit : ℕ) (token : Option Token) (parts : List Meaning) (m : Meaning) → length parts ≡ 1
    → inner_prefixed token parts ≡ Some m →
    inner_prefix token (map (depth_of limit) parts) ≡ Some (depth_of limit m)
inner_prefixed_is limit token parts m n e =
    let i1 = and_then_some token _ m e in
    let word = i1.0 in
    let i2 = and_then_some (next_in meant_operands parts) _ m i1.2 in
    let e2 = taken meant_operands some_operands operands_in_is parts i2.0 i2.1 in
    let flat = i2.0.0 in
    let shown : List Meaning = some_operands flat ∷ [] in
    let s : parts ≡ shown = shape1 parts (some_operands flat) i2.0.1 e2 n in
    let x : Meaning = prefixed (inner_action (place_of word)) flat in
    row limit (inner_prefix token) parts shown x m s i2.2 (ap (λ it. inner_prefix it (map (depth_of limit) shown)) i1.1
    ∙ ap (λ it. Some (of_flat it (signs_strengths flat.signs))) (inner_first limit (place_of word) flat.operands))

pub guarded_is : (limit : ℕ) (token : Option Token) (parts : List Meaning) (m : Meaning) → length parts ≡ 2 → guarded token parts ≡ Some m →
    guard_prefix token (map (depth_of limit) parts) ≡ Some (depth_of limit m)
guarded_is limit token parts m n e =
    let i1 = and_then_some token _ m e in
    let left = i1.0 in
    let i2 = and_then_some (next_in meant_premiss parts) _ m i1.2 in
    let e2 = taken meant_premiss a_premiss premiss_in_is parts i2.0 i2.1 in
    let test = i2.0.0 in
    let i3 = and_then_some (next_in meant_operands i2.0.1) _ m i2.2 in
    let e3 = taken meant_operands some_operands operands_in_is i2.0.1 i3.0 i3.1 in
    let flat = i3.0.0 in
    let shown : List Meaning = a_premiss test ∷ some_operands flat ∷ [] in
    let s : parts ≡ shown = shape2 parts (a_premiss test) (some_operands flat) i2.0.1 i3.0.1 e2 e3 n in
    let x : Meaning = prefixed (guard (place_of left) test) flat in
    row limit (guard_prefix token) parts shown x m s i3.2 (ap (λ it. guard_prefix it (map (depth_of limit) shown)) i1.1
    ∙ ap (λ it. Some (of_flat it (signs_strengths flat.signs))) (guard_first limit (place_of left) test flat.operands))

pub stopped_is : (limit : ℕ) (token : Option Token) (parts : List Meaning) (m : Meaning) → length parts ≡ 1 → stopped token parts ≡ Some m →
    stop_first token (map (depth_of limit) parts) ≡ Some (depth_of limit m)
stopped_is limit token parts m n e =
    let i1 = and_then_some token _ m e in
    let word = i1.0 in
    let i2 = and_then_some (next_in meant_operands parts) _ m i1.2 in
    let e2 = taken meant_operands some_operands operands_in_is parts i2.0 i2.1 in
    let tail = i2.0.0 in
    let shown : List Meaning = some_operands tail ∷ [] in
    let s : parts ≡ shown = shape1 parts (some_operands tail) i2.0.1 e2 n in
    let x : Meaning = before_tail (stop (place_of word)) tail in
    row limit (stop_first token) parts shown x m s i2.2 (ap (λ it. stop_first it (map (depth_of limit) shown)) i1.1 ∙ refl)

pub exited_is : (limit : ℕ) (token : Option Token) (parts : List Meaning) (m : Meaning) → length parts ≡ 2 → exited token parts ≡ Some m →
    exit_first token (map (depth_of limit) parts) ≡ Some (depth_of limit m)
exited_is limit token parts m n e =
    let i1 = and_then_some token _ m e in
    let word = i1.0 in
    let i2 = and_then_some (next_in meant_exit_values parts) _ m i1.2 in
    let e2 = taken meant_exit_values some_exit_values exit_values_in_is parts i2.0 i2.1 in
    let values = i2.0.0 in
    let i3 = and_then_some (next_in meant_operands i2.0.1) _ m i2.2 in
    let e3 = taken meant_operands some_operands operands_in_is i2.0.1 i3.0 i3.1 in
    let tail = i3.0.0 in
    let shown : List Meaning = some_exit_values values ∷ some_operands tail ∷ [] in
    let s : parts ≡ shown = shape2 parts (some_exit_values values) (some_operands tail) i2.0.1 i3.0.1 e2 e3 n in
    let x : Meaning = before_tail (exit (place_of word) values) tail in
    row limit (exit_first token) parts shown x m s i3.2 (ap (λ it. exit_first it (map (depth_of limit) shown)) i1.1 ∙ refl)

pub bracketed_behaviour_is : (limit : ℕ) (parts : List Meaning) (m : Meaning) → length parts ≡ 2 → bracketed_behaviour parts ≡ Some m →
    bracket_first (map (depth_of limit) parts) ≡ Some (depth_of limit m)
bracketed_behaviour_is limit parts m n e =
    let i1 = and_then_some (next_in meant_operands parts) _ m e in
    let e1 = taken meant_operands some_operands operands_in_is parts i1.0 i1.1 in
    let flat = i1.0.0 in
    let i2 = and_then_some (next_in meant_operands i1.0.1) _ m i1.2 in
    let e2 = taken meant_operands some_operands operands_in_is i1.0.1 i2.0 i2.1 in
    let tail = i2.0.0 in
    let i3 = and_then_some (grouped strength_of joined_by_sign flat.operands flat.signs) _ m i2.2 in
    let inside = i3.0 in
    let inside_is = i3.1 in
    let shown : List Meaning = some_operands flat ∷ some_operands tail ∷ [] in
    let s : parts ≡ shown = shape2 parts (some_operands flat) (some_operands tail) i1.0.1 i2.0.1 e1 e2 n in
    let x : Meaning = before_tail inside tail in
    row limit (bracket_first) parts shown x m s i3.2 (ap (λ it. first_operand it (depth_of limit (some_operands tail)))
    (grouped_is limit flat inside inside_is))

pub no_tail_is : (limit : ℕ) (parts : List Meaning) (m : Meaning) → length parts ≡ 0 → no_tail ≡ Some m →
    parts_together (map (depth_of limit) parts) ≡ Some (depth_of limit m)
no_tail_is limit parts m n e =
    let shown : List Meaning = [] in
    let s : parts ≡ shown = shape0 parts n in
    let x : Meaning = some_operands (record { operands = []; signs = [] }) in
    row limit (parts_together) parts shown x m s e (refl)

pub sign_before_behaviour_is : (limit : ℕ) (parts : List Meaning) (m : Meaning) → length parts ≡ 2 → sign_before_behaviour parts ≡ Some m →
    parts_together (map (depth_of limit) parts) ≡ Some (depth_of limit m)
sign_before_behaviour_is limit parts m n e =
    let i1 = and_then_some (next_in meant_sign parts) _ m e in
    let e1 = taken meant_sign a_sign sign_in_is parts i1.0 i1.1 in
    let sign = i1.0.0 in
    let i2 = and_then_some (next_in meant_operands i1.0.1) _ m i1.2 in
    let e2 = taken meant_operands some_operands operands_in_is i1.0.1 i2.0 i2.1 in
    let flat = i2.0.0 in
    let shown : List Meaning = a_sign sign ∷ some_operands flat ∷ [] in
    let s : parts ≡ shown = shape2 parts (a_sign sign) (some_operands flat) i1.0.1 i2.0.1 e1 e2 n in
    let x : Meaning = some_operands (record { operands = flat.operands; signs = sign ∷ flat.signs }) in
    row limit (parts_together) parts shown x m s i2.2 (refl)

pub action_without_offers_is : (limit : ℕ) (parts : List Meaning) (m : Meaning) → length parts ≡ 1 → action_without_offers parts ≡ Some m →
    parts_together (map (depth_of limit) parts) ≡ Some (depth_of limit m)
action_without_offers_is limit parts m n e =
    let i1 = and_then_some (next_in meant_operands parts) _ m e in
    let e1 = taken meant_operands some_operands operands_in_is parts i1.0 i1.1 in
    let flat = i1.0.0 in
    let shown : List Meaning = some_operands flat ∷ [] in
    let s : parts ≡ shown = shape1 parts (some_operands flat) i1.0.1 e1 n in
    let x : Meaning = an_action (record { offers = []; test = None; behind = flat }) in
    row limit (parts_together) parts shown x m s i1.2 (ap (λ it. Some (of_flat it (signs_strengths flat.signs)))
    (nothing_first (operands_firsts limit flat.operands)))

pub offers_before_action_is : (limit : ℕ) (parts : List Meaning) (m : Meaning) → length parts ≡ 2 → offers_before_action parts ≡ Some m →
    terms_before (map (depth_of limit) parts) ≡ Some (depth_of limit m)
offers_before_action_is limit parts m n e =
    let i1 = and_then_some (next_in meant_offers parts) _ m e in
    let e1 = taken meant_offers some_offers offers_in_is parts i1.0 i1.1 in
    let offers = i1.0.0 in
    let i2 = and_then_some (next_in meant_action i1.0.1) _ m i1.2 in
    let e2 = taken meant_action an_action action_in_is i1.0.1 i2.0 i2.1 in
    let end = i2.0.0 in
    let shown : List Meaning = some_offers offers ∷ an_action end ∷ [] in
    let s : parts ≡ shown = shape2 parts (some_offers offers) (an_action end) i1.0.1 i2.0.1 e1 e2 n in
    let x : Meaning = an_action (record { offers = offers ++ end.offers; test = end.test; behind = end.behind }) in
    row limit (terms_before) parts shown x m s i2.2 (ap (λ it. Some (of_flat it (signs_strengths end.behind.signs)))
    (offers_first limit offers end.offers end.test (operands_firsts limit end.behind.operands)))

pub action_with_selection_is : (limit : ℕ) (parts : List Meaning) (m : Meaning) → length parts ≡ 2 → action_with_selection parts ≡ Some m →
    terms_before (map (depth_of limit) parts) ≡ Some (depth_of limit m)
action_with_selection_is limit parts m n e =
    let i1 = and_then_some (next_in meant_premiss parts) _ m e in
    let e1 = taken meant_premiss a_premiss premiss_in_is parts i1.0 i1.1 in
    let test = i1.0.0 in
    let i2 = and_then_some (next_in meant_operands i1.0.1) _ m i1.2 in
    let e2 = taken meant_operands some_operands operands_in_is i1.0.1 i2.0 i2.1 in
    let flat = i2.0.0 in
    let shown : List Meaning = a_premiss test ∷ some_operands flat ∷ [] in
    let s : parts ≡ shown = shape2 parts (a_premiss test) (some_operands flat) i1.0.1 i2.0.1 e1 e2 n in
    let x : Meaning = an_action (record { offers = []; test = Some test; behind = flat }) in
    row limit (terms_before) parts shown x m s i2.2 (refl)

pub call_without_name_is : (limit : ℕ) (parts : List Meaning) (m : Meaning) → length parts ≡ 3 → call_without_name parts ≡ Some m →
    call_end limit (map (depth_of limit) parts) ≡ Some (depth_of limit m)
call_without_name_is limit parts m n e =
    let i1 = and_then_some (next_in meant_names parts) _ m e in
    let e1 = taken meant_names some_names names_in_is parts i1.0 i1.1 in
    let gates = i1.0.0 in
    let i2 = and_then_some (next_in meant_terms i1.0.1) _ m i1.2 in
    let e2 = taken meant_terms some_terms terms_in_is i1.0.1 i2.0 i2.1 in
    let values = i2.0.0 in
    let i3 = and_then_some (next_in meant_operands i2.0.1) _ m i2.2 in
    let e3 = taken meant_operands some_operands operands_in_is i2.0.1 i3.0 i3.1 in
    let tail = i3.0.0 in
    let shown : List Meaning = some_names gates ∷ some_terms values ∷ some_operands tail ∷ [] in
    let s : parts ≡ shown = shape3 parts (some_names gates) (some_terms values) (some_operands tail) i1.0.1 i2.0.1 i3.0.1 e1 e2 e3 n in
    let x : Meaning = a_call (record { gates = gates; values = values; behind = tail }) in
    row limit (call_end limit) parts shown x m s i3.2 (ap (λ it. first_operand (everywhere it) (depth_of limit (some_operands tail)))
    (sym (terms_deeper limit values)))

pub offer_of_value_is : (limit : ℕ) (parts : List Meaning) (m : Meaning) → length parts ≡ 1 → offer_of_value parts ≡ Some m →
    closing_parts limit (map (depth_of limit) parts) ≡ Some (depth_of limit m)
offer_of_value_is limit parts m n e =
    let i1 = and_then_some (next_in meant_term parts) _ m e in
    let e1 = taken meant_term a_term term_in_is parts i1.0 i1.1 in
    let term = i1.0.0 in
    let shown : List Meaning = a_term term ∷ [] in
    let s : parts ≡ shown = shape1 parts (a_term term) i1.0.1 e1 n in
    let x : Meaning = some_offers (offer_value term.term ∷ []) in
    row limit (closing_parts limit) parts shown x m s i1.2 (closes limit shown x refl (simp (append-nil, append_assoc)))

pub offers_of_variables_is : (limit : ℕ) (parts : List Meaning) (m : Meaning) → length parts ≡ 2 → offers_of_variables parts ≡ Some m →
    closing_parts limit (map (depth_of limit) parts) ≡ Some (depth_of limit m)
offers_of_variables_is limit parts m n e =
    let i1 = and_then_some (next_in meant_names parts) _ m e in
    let e1 = taken meant_names some_names names_in_is parts i1.0 i1.1 in
    let names = i1.0.0 in
    let i2 = and_then_some (next_in meant_name i1.0.1) _ m i1.2 in
    let e2 = taken meant_name a_name name_in_is i1.0.1 i2.0 i2.1 in
    let sort = i2.0.0 in
    let shown : List Meaning = some_names names ∷ a_name sort ∷ [] in
    let s : parts ≡ shown = shape2 parts (some_names names) (a_name sort) i1.0.1 i2.0.1 e1 e2 n in
    let x : Meaning = some_offers (map offer_variable (variables_of_sort names sort)) in
    row limit (closing_parts limit) parts shown x m s i2.2 (closes limit shown x refl (no_offered (variables_of_sort names sort)))

pub no_exit_values_is : (limit : ℕ) (parts : List Meaning) (m : Meaning) → length parts ≡ 0 → no_exit_values ≡ Some m →
    closing_parts limit (map (depth_of limit) parts) ≡ Some (depth_of limit m)
no_exit_values_is limit parts m n e =
    let shown : List Meaning = [] in
    let s : parts ≡ shown = shape0 parts n in
    let x : Meaning = some_exit_values [] in
    row limit (closing_parts limit) parts shown x m s e (closes limit shown x refl refl)

pub same_exit_values_is : (limit : ℕ) (parts : List Meaning) (m : Meaning) → length parts ≡ 1 → same_exit_values parts ≡ Some m →
    closing_parts limit (map (depth_of limit) parts) ≡ Some (depth_of limit m)
same_exit_values_is limit parts m n e =
    let i1 = and_then_some (next_in meant_exit_values parts) _ m e in
    let e1 = taken meant_exit_values some_exit_values exit_values_in_is parts i1.0 i1.1 in
    let values = i1.0.0 in
    let shown : List Meaning = some_exit_values values ∷ [] in
    let s : parts ≡ shown = shape1 parts (some_exit_values values) i1.0.1 e1 n in
    let x : Meaning = some_exit_values values in
    row limit (closing_parts limit) parts shown x m s i1.2 (closes limit shown x refl (simp (append-nil, append_assoc)))

pub any_before_exit_values_is : (limit : ℕ) (parts : List Meaning) (m : Meaning) → length parts ≡ 2
    → any_before_exit_values parts ≡ Some m →
    closing_parts limit (map (depth_of limit) parts) ≡ Some (depth_of limit m)
any_before_exit_values_is limit parts m n e =
    let i1 = and_then_some (next_in meant_name parts) _ m e in
    let e1 = taken meant_name a_name name_in_is parts i1.0 i1.1 in
    let sort = i1.0.0 in
    let i2 = and_then_some (next_in meant_exit_values i1.0.1) _ m i1.2 in
    let e2 = taken meant_exit_values some_exit_values exit_values_in_is i1.0.1 i2.0 i2.1 in
    let more = i2.0.0 in
    let shown : List Meaning = a_name sort ∷ some_exit_values more ∷ [] in
    let s : parts ≡ shown = shape2 parts (a_name sort) (some_exit_values more) i1.0.1 i2.0.1 e1 e2 n in
    let x : Meaning = some_exit_values (exit_any sort ∷ more) in
    row limit (closing_parts limit) parts shown x m s i2.2 (closes limit shown x refl (simp (append-nil, append_assoc)))

pub term_before_exit_values_is : (limit : ℕ) (parts : List Meaning) (m : Meaning) → length parts ≡ 2
    → term_before_exit_values parts ≡ Some m →
    closing_parts limit (map (depth_of limit) parts) ≡ Some (depth_of limit m)
term_before_exit_values_is limit parts m n e =
    let i1 = and_then_some (next_in meant_term parts) _ m e in
    let e1 = taken meant_term a_term term_in_is parts i1.0 i1.1 in
    let term = i1.0.0 in
    let i2 = and_then_some (next_in meant_exit_values i1.0.1) _ m i1.2 in
    let e2 = taken meant_exit_values some_exit_values exit_values_in_is i1.0.1 i2.0 i2.1 in
    let more = i2.0.0 in
    let shown : List Meaning = a_term term ∷ some_exit_values more ∷ [] in
    let s : parts ≡ shown = shape2 parts (a_term term) (some_exit_values more) i1.0.1 i2.0.1 e1 e2 n in
    let x : Meaning = some_exit_values (exit_term term.term ∷ more) in
    row limit (closing_parts limit) parts shown x m s i2.2 (closes limit shown x refl (simp (append-nil, append_assoc)))

pub let_before_lets_is : (limit : ℕ) (parts : List Meaning) (m : Meaning) → length parts ≡ 4 → let_before_lets parts ≡ Some m →
    closing_parts limit (map (depth_of limit) parts) ≡ Some (depth_of limit m)
let_before_lets_is limit parts m n e =
    let i1 = and_then_some (next_in meant_name parts) _ m e in
    let e1 = taken meant_name a_name name_in_is parts i1.0 i1.1 in
    let variable = i1.0.0 in
    let i2 = and_then_some (next_in meant_name i1.0.1) _ m i1.2 in
    let e2 = taken meant_name a_name name_in_is i1.0.1 i2.0 i2.1 in
    let sort = i2.0.0 in
    let i3 = and_then_some (next_in meant_term i2.0.1) _ m i2.2 in
    let e3 = taken meant_term a_term term_in_is i2.0.1 i3.0 i3.1 in
    let term = i3.0.0 in
    let i4 = and_then_some (next_in meant_lets i3.0.1) _ m i3.2 in
    let e4 = taken meant_lets some_lets lets_in_is i3.0.1 i4.0 i4.1 in
    let more = i4.0.0 in
    let shown : List Meaning = a_name variable ∷ a_name sort ∷ a_term term ∷ some_lets more ∷ [] in
    let s : parts ≡ shown = shape4 parts (a_name variable) (a_name sort) (a_term term) (some_lets more) i1.0.1 i2.0.1 i3.0.1 i4.0.1 e1 e2 e3
    e4 n in
    let x : Meaning = some_lets ((variable_named variable sort, term.term) ∷ more) in
    row limit (closing_parts limit) parts shown x m s i4.2 (closes limit shown x refl (simp (append-nil, append_assoc)))

pub no_lets_is : (limit : ℕ) (parts : List Meaning) (m : Meaning) → length parts ≡ 0 → no_lets ≡ Some m →
    closing_parts limit (map (depth_of limit) parts) ≡ Some (depth_of limit m)
no_lets_is limit parts m n e =
    let shown : List Meaning = [] in
    let s : parts ≡ shown = shape0 parts n in
    let x : Meaning = some_lets [] in
    row limit (closing_parts limit) parts shown x m s e (closes limit shown x refl refl)

pub same_lets_is : (limit : ℕ) (parts : List Meaning) (m : Meaning) → length parts ≡ 1 → same_lets parts ≡ Some m →
    closing_parts limit (map (depth_of limit) parts) ≡ Some (depth_of limit m)
same_lets_is limit parts m n e =
    let i1 = and_then_some (next_in meant_lets parts) _ m e in
    let e1 = taken meant_lets some_lets lets_in_is parts i1.0 i1.1 in
    let lets = i1.0.0 in
    let shown : List Meaning = some_lets lets ∷ [] in
    let s : parts ≡ shown = shape1 parts (some_lets lets) i1.0.1 e1 n in
    let x : Meaning = some_lets lets in
    row limit (closing_parts limit) parts shown x m s i1.2 (closes limit shown x refl (simp (append-nil, append_assoc)))

pub value_choice_end_is : (limit : ℕ) (parts : List Meaning) (m : Meaning) → length parts ≡ 3 → value_choice_end parts ≡ Some m →
    end_of_choice (map (depth_of limit) parts) ≡ Some (depth_of limit m)
value_choice_end_is limit parts m n e =
    let i1 = and_then_some (next_in meant_name parts) _ m e in
    let e1 = taken meant_name a_name name_in_is parts i1.0 i1.1 in
    let sort = i1.0.0 in
    let i2 = and_then_some (next_in meant_variables i1.0.1) _ m i1.2 in
    let e2 = taken meant_variables some_variables variables_in_is i1.0.1 i2.0 i2.1 in
    let more = i2.0.0 in
    let i3 = and_then_some (next_in meant_behaviour i2.0.1) _ m i2.2 in
    let e3 = taken meant_behaviour a_behaviour behaviour_in_is i2.0.1 i3.0 i3.1 in
    let inside = i3.0.0 in
    let shown : List Meaning = a_name sort ∷ some_variables more ∷ a_behaviour inside ∷ [] in
    let s : parts ≡ shown = shape3 parts (a_name sort) (some_variables more) (a_behaviour inside) i1.0.1 i2.0.1 i3.0.1 e1 e2 e3 n in
    let x : Meaning = a_value_choice (record { sort = sort; more = more; inside = inside }) in
    row limit (end_of_choice) parts shown x m s i3.2 (refl)

pub gate_choice_end_is : (limit : ℕ) (parts : List Meaning) (m : Meaning) → length parts ≡ 3 → gate_choice_end parts ≡ Some m →
    end_of_choice (map (depth_of limit) parts) ≡ Some (depth_of limit m)
gate_choice_end_is limit parts m n e =
    let i1 = and_then_some (next_in meant_names parts) _ m e in
    let e1 = taken meant_names some_names names_in_is parts i1.0 i1.1 in
    let among = i1.0.0 in
    let i2 = and_then_some (next_in meant_gate_choices i1.0.1) _ m i1.2 in
    let e2 = taken meant_gate_choices some_gate_choices gate_choices_in_is i1.0.1 i2.0 i2.1 in
    let more = i2.0.0 in
    let i3 = and_then_some (next_in meant_behaviour i2.0.1) _ m i2.2 in
    let e3 = taken meant_behaviour a_behaviour behaviour_in_is i2.0.1 i3.0 i3.1 in
    let inside = i3.0.0 in
    let shown : List Meaning = some_names among ∷ some_gate_choices more ∷ a_behaviour inside ∷ [] in
    let s : parts ≡ shown = shape3 parts (some_names among) (some_gate_choices more) (a_behaviour inside) i1.0.1 i2.0.1 i3.0.1 e1 e2 e3 n in
    let x : Meaning = a_gate_choice (record { among = among; more = more; inside = inside }) in
    row limit (end_of_choice) parts shown x m s i3.2 (refl)

pub chosen_is : (limit : ℕ) (parts : List Meaning) (m : Meaning) → length parts ≡ 1 → chosen parts ≡ Some m →
    chosen_part (map (depth_of limit) parts) ≡ Some (depth_of limit m)
chosen_is limit parts m n e =
    let i1 = and_then_some (next_in meant_operands parts) _ m e in
    let e1 = taken meant_operands some_operands operands_in_is parts i1.0 i1.1 in
    let flat = i1.0.0 in
    let i2 = and_then_some (grouped strength_of joined_by_sign flat.operands flat.signs) _ m i1.2 in
    let inside = i2.0 in
    let inside_is = i2.1 in
    let shown : List Meaning = some_operands flat ∷ [] in
    let s : parts ≡ shown = shape1 parts (some_operands flat) i1.0.1 e1 n in
    let x : Meaning = a_behaviour inside in
    row limit (chosen_part) parts shown x m s i2.2 (ap (λ it. Some (of_firsts it)) (grouped_is limit flat inside inside_is))

pub gates_before_gate_choices_is : (limit : ℕ) (parts : List Meaning) (m : Meaning) → length parts ≡ 3
    → gates_before_gate_choices parts ≡ Some m →
    around_middle (map (depth_of limit) parts) ≡ Some (depth_of limit m)
gates_before_gate_choices_is limit parts m n e =
    let i1 = and_then_some (next_in meant_names parts) _ m e in
    let e1 = taken meant_names some_names names_in_is parts i1.0 i1.1 in
    let names = i1.0.0 in
    let i2 = and_then_some (next_in meant_names i1.0.1) _ m i1.2 in
    let e2 = taken meant_names some_names names_in_is i1.0.1 i2.0 i2.1 in
    let among = i2.0.0 in
    let i3 = and_then_some (next_in meant_gate_choices i2.0.1) _ m i2.2 in
    let e3 = taken meant_gate_choices some_gate_choices gate_choices_in_is i2.0.1 i3.0 i3.1 in
    let more = i3.0.0 in
    let shown : List Meaning = some_names names ∷ some_names among ∷ some_gate_choices more ∷ [] in
    let s : parts ≡ shown = shape3 parts (some_names names) (some_names among) (some_gate_choices more) i1.0.1 i2.0.1 i3.0.1 e1 e2 e3 n in
    let x : Meaning = some_gate_choices (gate_choices_among names among ++ more) in
    row limit (around_middle) parts shown x m s i3.2 (ap (λ it. Some (of_names it)) (gates_together names among more))

pub no_gate_choices_is : (limit : ℕ) (parts : List Meaning) (m : Meaning) → length parts ≡ 0 → no_gate_choices ≡ Some m →
    parts_together (map (depth_of limit) parts) ≡ Some (depth_of limit m)
no_gate_choices_is limit parts m n e =
    let shown : List Meaning = [] in
    let s : parts ≡ shown = shape0 parts n in
    let x : Meaning = some_gate_choices [] in
    row limit (parts_together) parts shown x m s e (refl)

pub same_gate_choices_is : (limit : ℕ) (parts : List Meaning) (m : Meaning) → length parts ≡ 1 → same_gate_choices parts ≡ Some m →
    parts_together (map (depth_of limit) parts) ≡ Some (depth_of limit m)
same_gate_choices_is limit parts m n e =
    let i1 = and_then_some (next_in meant_gate_choices parts) _ m e in
    let e1 = taken meant_gate_choices some_gate_choices gate_choices_in_is parts i1.0 i1.1 in
    let gates = i1.0.0 in
    let shown : List Meaning = some_gate_choices gates ∷ [] in
    let s : parts ≡ shown = shape1 parts (some_gate_choices gates) i1.0.1 e1 n in
    let x : Meaning = some_gate_choices gates in
    row limit (parts_together) parts shown x m s i1.2 (refl)

pub same_sign_is : (limit : ℕ) (parts : List Meaning) (m : Meaning) → length parts ≡ 1 → same_sign parts ≡ Some m →
    parts_together (map (depth_of limit) parts) ≡ Some (depth_of limit m)
same_sign_is limit parts m n e =
    let i1 = and_then_some (next_in meant_sign parts) _ m e in
    let e1 = taken meant_sign a_sign sign_in_is parts i1.0 i1.1 in
    let sign = i1.0.0 in
    let shown : List Meaning = a_sign sign ∷ [] in
    let s : parts ≡ shown = shape1 parts (a_sign sign) i1.0.1 e1 n in
    let x : Meaning = a_sign sign in
    row limit (parts_together) parts shown x m s i1.2 (refl)

pub enabling_sign_is : (limit : ℕ) (token : Option Token) (parts : List Meaning) (m : Meaning) → length parts ≡ 1
    → enabling_sign token parts ≡ Some m →
    sign_part 0 ≡ Some (depth_of limit m)
enabling_sign_is limit token parts m n e =
    let i1 = and_then_some token _ m e in
    let word = i1.0 in
    let i2 = and_then_some (next_in meant_variables parts) _ m i1.2 in
    let e2 = taken meant_variables some_variables variables_in_is parts i2.0 i2.1 in
    let accepted = i2.0.0 in
    let shown : List Meaning = some_variables accepted ∷ [] in
    let s : parts ≡ shown = shape1 parts (some_variables accepted) i2.0.1 e2 n in
    let x : Meaning = a_sign (record { place = place_of word; sign = enabling accepted }) in
    row limit ((λ parts. sign_part 0)) parts shown x m s i2.2 (refl)

pub gates_sign_is : (limit : ℕ) (token : Option Token) (parts : List Meaning) (m : Meaning) → length parts ≡ 1
    → gates_sign token parts ≡ Some m →
    sign_part 2 ≡ Some (depth_of limit m)
gates_sign_is limit token parts m n e =
    let i1 = and_then_some token _ m e in
    let word = i1.0 in
    let i2 = and_then_some (next_in meant_names parts) _ m i1.2 in
    let e2 = taken meant_names some_names names_in_is parts i2.0 i2.1 in
    let gates = i2.0.0 in
    let shown : List Meaning = some_names gates ∷ [] in
    let s : parts ≡ shown = shape1 parts (some_names gates) i2.0.1 e2 n in
    let x : Meaning = a_sign (record { place = place_of word; sign = synchronising gates }) in
    row limit ((λ parts. sign_part 2)) parts shown x m s i2.2 (refl)

value_choice_is : (limit : ℕ) (place : Place) (names : List PlacedName) (rest : List Meaning) (m : Meaning) → length rest ≡ 1 →
    choice_of_values place names rest ≡ Some m →
    choice_form (depth_of limit (some_names names) ∷ map (depth_of limit) rest) ≡ Some (depth_of limit m)
value_choice_is limit place names rest m n e =
    let i = and_then_some (next_in meant_value_choice rest) _ m e in
    let e1 = taken meant_value_choice a_value_choice value_choice_in_is rest i.0 i.1 in
    let end = i.0.0 in
    let shown : List Meaning = a_value_choice end ∷ [] in
    let s : rest ≡ shown = shape1 rest (a_value_choice end) i.0.1 e1 n in
    let x : Meaning = operand_alone (choose_value place (variables_of_sort names end.sort ++ end.more) end.inside) in
    row limit (λ it. choice_form (depth_of limit (some_names names) ∷ it)) rest shown x m s i.2
    (ap (λ it. one_operand (names_firsts it (behaviour_firsts limit end.inside))) (variables_together names end.sort end.more))

gate_choice_is : (limit : ℕ) (place : Place) (names : List PlacedName) (rest : List Meaning) (m : Meaning) → length rest ≡ 1 →
    choice_of_gates place names rest ≡ Some m →
    choice_form (depth_of limit (some_names names) ∷ map (depth_of limit) rest) ≡ Some (depth_of limit m)
gate_choice_is limit place names rest m n e =
    let i = and_then_some (next_in meant_gate_choice rest) _ m e in
    let e1 = taken meant_gate_choice a_gate_choice gate_choice_in_is rest i.0 i.1 in
    let end = i.0.0 in
    let shown : List Meaning = a_gate_choice end ∷ [] in
    let s : rest ≡ shown = shape1 rest (a_gate_choice end) i.0.1 e1 n in
    let x : Meaning = operand_alone (choose_gate place (gate_choices_among names end.among ++ end.more) end.inside) in
    row limit (λ it. choice_form (depth_of limit (some_names names) ∷ it)) rest shown x m s i.2
    (ap (λ it. one_operand (names_firsts it (behaviour_firsts limit end.inside))) (gates_together names end.among end.more))

pub choice_after_word_is : (limit : ℕ) (token : Option Token) (parts : List Meaning) (m : Meaning) → length parts ≡ 2 →
    choice_after_word token parts ≡ Some m → choice_form (map (depth_of limit) parts) ≡ Some (depth_of limit m)
choice_after_word_is limit token parts m n e =
    let i1 = and_then_some token _ m e in
    let i2 = and_then_some (next_in meant_names parts) _ m i1.2 in
    let e2 = taken meant_names some_names names_in_is parts i2.0 i2.1 in
    let names = i2.0.0 in
    let rest = i2.0.1 in
    let count : length rest ≡ 1 = let all : length parts ≡ length (some_names names ∷ rest) = ap length e2 in omega arith in
    ap (λ it. choice_form (map (depth_of limit) it)) e2
    ∙ (elim (or_else_some (choice_of_values (place_of i1.0) names rest) (choice_of_gates (place_of i1.0) names rest) m i2.2) [
      | inl values ↦ value_choice_is limit (place_of i1.0) names rest m count values
      | inr gates ↦ gate_choice_is limit (place_of i1.0) names rest m count gates
    ])

action_is : (limit : ℕ) (name : PlacedName) (rest : List Meaning) (m : Meaning) → length rest ≡ 1 → action_of_gate name rest ≡ Some m →
    named_first (depth_of limit (a_name name) ∷ map (depth_of limit) rest) ≡ Some (depth_of limit m)
action_is limit name rest m n e =
    let i = and_then_some (next_in meant_action rest) _ m e in
    let e1 = taken meant_action an_action action_in_is rest i.0 i.1 in
    let end = i.0.0 in
    let shown : List Meaning = an_action end ∷ [] in
    let s : rest ≡ shown = shape1 rest (an_action end) i.0.1 e1 n in
    let x : Meaning = prefixed (action name.place name.name end.offers end.test) end.behind in
    row limit (λ it. named_first (depth_of limit (a_name name) ∷ it)) rest shown x m s i.2
    (ap (λ it. Some (of_flat it (signs_strengths end.behind.signs)))
    (action_first limit name.place name.name end.offers end.test end.behind.operands))

call_is : (limit : ℕ) (name : PlacedName) (rest : List Meaning) (m : Meaning) → length rest ≡ 1 → call_of_process name rest ≡ Some m →
    named_first (depth_of limit (a_name name) ∷ map (depth_of limit) rest) ≡ Some (depth_of limit m)
call_is limit name rest m n e =
    let i = and_then_some (next_in meant_call rest) _ m e in
    let e1 = taken meant_call a_call call_in_is rest i.0 i.1 in
    let end = i.0.0 in
    let shown : List Meaning = a_call end ∷ [] in
    let s : rest ≡ shown = shape1 rest (a_call end) i.0.1 e1 n in
    let x : Meaning = before_tail (call name.place name.name end.gates end.values) end.behind in
    row limit (λ it. named_first (depth_of limit (a_name name) ∷ it)) rest shown x m s i.2 refl

pub name_first_is : (limit : ℕ) (parts : List Meaning) (m : Meaning) → length parts ≡ 2 → name_first parts ≡ Some m →
    named_first (map (depth_of limit) parts) ≡ Some (depth_of limit m)
name_first_is limit parts m n e =
    let i = and_then_some (next_in meant_name parts) _ m e in
    let e1 = taken meant_name a_name name_in_is parts i.0 i.1 in
    let name = i.0.0 in
    let rest = i.0.1 in
    let count : length rest ≡ 1 = let all : length parts ≡ length (a_name name ∷ rest) = ap length e1 in omega arith in
    ap (λ it. named_first (map (depth_of limit) it)) e1
    ∙ (elim (or_else_some (action_of_gate name rest) (call_of_process name rest) m i.2) [
      | inl acts ↦ action_is limit name rest m count acts
      | inr calls ↦ call_is limit name rest m count calls
    ])

pub sign_of_token_is : (limit : ℕ) (sign : WrittenSign) (token : Option Token) (m : Meaning) → sign_of_token sign token ≡ Some m →
    sign_part (strength sign) ≡ Some (depth_of limit m)
sign_of_token_is limit sign token m e =
    let i = map_some token (λ it. a_sign (record { place = place_of it; sign = sign })) m e in
    let same : a_sign (record { place = place_of i.0; sign = sign }) ≡ m = cc (i.2) in ap (λ it. Some (depth_of limit it)) same
