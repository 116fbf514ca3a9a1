-- What comes of a part that is there: the parts of a row from what the row means.
use Rattle.std.proofs.Common.{◌≡◌, ◌∙◌, List, [], ◌∷◌, length, Some, None, refl, ap, inl, inr, arith}
use Rattle.std.specs.Prelude.{◌⊎◌, Option, option_map, option_and_then}
use Rattle.lotos_base.specs.WrittenTerm.{PlacedName, WrittenTerm, ListedOperation}
use Rattle.syntax_trees.specs.WrittenVariable.{WrittenVariable}
use Rattle.syntax_trees.specs.WrittenEquation.{WrittenPremiss, WrittenEquation, WrittenGroup, WrittenEquations}
use Rattle.syntax_trees.specs.WrittenItem.{WrittenOperation, WrittenPair, WrittenPairs, WrittenSections, WrittenTypeBody, WrittenItem}
use Rattle.syntax_trees.specs.WrittenBehaviour.{WrittenGateChoice, WrittenExitValue, WrittenOffer, WrittenBehaviour}
use Rattle.syntax_trees.specs.WrittenDefinition.{WrittenHeading, WrittenInner}
use Rattle.syntax_trees.specs.Strength.{PlacedSign}
use Rattle.lotos_rows.specs.Names.{NamedOperation, PlacedProfile}
use Rattle.tree_building.specs.Meaning.{PlainStartedTerm, PlainConclusion, PlainAfterTerm, PlainAfterBase, PlainFlat, PlainActionEnd, PlainCallEnd, PlainValueChoiceEnd, PlainGateChoiceEnd, Meaning, a_name, some_names, some_variables, an_operation, some_named_operations, a_profile, maybe_name, maybe_profile, a_term, some_factors, some_terms, some_groups, some_equations, an_equation, a_conclusion, maybe_conclusion, after_term, a_premiss, maybe_term, some_pairs, both_pairs, an_item, some_items, a_body, after_base, some_sections, declared_operations, an_equation_section, some_operands, an_action, a_call, some_offers, some_exit_values, some_lets, some_gate_choices, a_value_choice, a_gate_choice, a_behaviour, a_sign, a_heading, a_functionality, some_inner, a_process, a_word, some_order_items}
use Rattle.tree_building.specs.Parts.{next_in, meant_action, meant_after_base, meant_after_term, meant_behaviour, meant_body, meant_both_pairs, meant_call, meant_conclusion, meant_declared_operations, meant_equation, meant_equation_section, meant_equations, meant_exit_values, meant_factors, meant_functionality, meant_gate_choice, meant_gate_choices, meant_groups, meant_heading, meant_inner, meant_item, meant_items, meant_lets, meant_maybe_conclusion, meant_maybe_name, meant_maybe_profile, meant_maybe_term, meant_name, meant_names, meant_offers, meant_operands, meant_operation, meant_operations, meant_order_items, meant_pairs, meant_premiss, meant_process, meant_profile, meant_sections, meant_sign, meant_term, meant_terms, meant_value_choice, meant_variables, meant_word}
use Rattle.tree_building.specs.BehavioursMeaning.{or_else}

pub and_then_some : {A B : Type 0} (o : Option A) (k : A → Option B) (b : B) → option_and_then k o ≡ Some b →
    (a : A) × (o ≡ Some a) × (k a ≡ Some b)
and_then_some None k b e = let none : None ≡ Some b = e in absurd (cc)
and_then_some (Some a) k b e = (a, refl, e)

pub map_some : {A B : Type 0} (o : Option A) (k : A → B) (b : B) → option_map k o ≡ Some b → (a : A) × (o ≡ Some a) × (Some (k a) ≡ Some b)
map_some None k b e = let none : None ≡ Some b = e in absurd (cc)
map_some (Some a) k b e = (a, refl, e)

pub or_else_some : {A : Type 0} (one other : Option A) (m : A) → or_else one other ≡ Some m → (one ≡ Some m) ⊎ (other ≡ Some m)
or_else_some None other m e = inr e
or_else_some (Some a) other m e = inl e

taken_pair : {A : Type 0} (o : Option A) (rest : List Meaning) (pair : A × List Meaning)
    → option_map (λ value. (value, rest)) o ≡ Some pair →
    (o ≡ Some pair.0) × (rest ≡ pair.1)
taken_pair None rest pair e = let none : None ≡ Some pair = e in absurd (cc)
taken_pair (Some a) rest pair e =
    let both : Some (a, rest) ≡ Some pair = e in let same : (a, rest) ≡ pair = cc in
    (ap (λ it. Some it.0) same, ap (λ it. it.1) same)

pub taken : {A : Type 0} (found : Meaning → Option A) (make : A → Meaning)
    (is : (part : Meaning) (value : A) → found part ≡ Some value → part ≡ make value) (parts : List Meaning)
    (pair : A × List Meaning) → next_in found parts ≡ Some pair → parts ≡ make pair.0 ∷ pair.1
taken found make is [] pair e = let none : None ≡ Some pair = e in absurd (cc)
taken found make is (part ∷ rest) pair e =
    let both = taken_pair (found part) rest pair e in
    ap (λ it. it ∷ rest) (is part pair.0 both.0) ∙ ap (λ it. make pair.0 ∷ it) both.1

-- lists of a known length
pub shape0 : (parts : List Meaning) → length parts ≡ 0 → parts ≡ []
shape0 [] n = refl
shape0 (part ∷ parts) n = absurd (omega arith)

pub shape1 : (parts : List Meaning) (p1 : Meaning) (r1 : List Meaning) → parts ≡ p1 ∷ r1 →
    length parts ≡ 1 → parts ≡ p1 ∷ []
shape1 parts p1 r1 e1 n =
    let whole : parts ≡ p1 ∷ r1 = e1 in
    let count : length parts ≡ length (p1 ∷ r1) = ap length whole in
    whole ∙ ap (λ it. p1 ∷ it) (shape0 r1 (omega arith))

pub shape2 : (parts : List Meaning) (p1 p2 : Meaning) (r1 r2 : List Meaning) → parts ≡ p1 ∷ r1 → r1 ≡ p2 ∷ r2 →
    length parts ≡ 2 → parts ≡ p1 ∷ p2 ∷ []
shape2 parts p1 p2 r1 r2 e1 e2 n =
    let whole : parts ≡ p1 ∷ p2 ∷ r2 = e1 ∙ ap (λ it. p1 ∷ it) e2 in
    let count : length parts ≡ length (p1 ∷ p2 ∷ r2) = ap length whole in
    whole ∙ ap (λ it. p1 ∷ p2 ∷ it) (shape0 r2 (omega arith))

pub shape3 : (parts : List Meaning) (p1 p2 p3 : Meaning) (r1 r2 r3 : List Meaning) → parts ≡ p1 ∷ r1 → r1 ≡ p2 ∷ r2 → r2 ≡ p3 ∷ r3 →
    length parts ≡ 3 → parts ≡ p1 ∷ p2 ∷ p3 ∷ []
shape3 parts p1 p2 p3 r1 r2 r3 e1 e2 e3 n =
    let whole : parts ≡ p1 ∷ p2 ∷ p3 ∷ r3 = e1 ∙ ap (λ it. p1 ∷ it) e2 ∙ ap (λ it. p1 ∷ p2 ∷ it) e3 in
    let count : length parts ≡ length (p1 ∷ p2 ∷ p3 ∷ r3) = ap length whole in
    whole ∙ ap (λ it. p1 ∷ p2 ∷ p3 ∷ it) (shape0 r3 (omega arith))

pub shape4 : (parts : List Meaning) (p1 p2 p3 p4 : Meaning) (r1 r2 r3 r4 : List Meaning) → parts ≡ p1 ∷ r1 → r1 ≡ p2 ∷ r2 → r2 ≡ p3 ∷ r3
    → r3 ≡ p4 ∷ r4 →
    length parts ≡ 4 → parts ≡ p1 ∷ p2 ∷ p3 ∷ p4 ∷ []
shape4 parts p1 p2 p3 p4 r1 r2 r3 r4 e1 e2 e3 e4 n =
    let whole : parts ≡ p1 ∷ p2 ∷ p3 ∷ p4 ∷ r4 = e1 ∙ ap (λ it. p1 ∷ it) e2 ∙ ap (λ it. p1 ∷ p2 ∷ it) e3
    ∙ ap (λ it. p1 ∷ p2 ∷ p3 ∷ it) e4 in
    let count : length parts ≡ length (p1 ∷ p2 ∷ p3 ∷ p4 ∷ r4) = ap length whole in
    whole ∙ ap (λ it. p1 ∷ p2 ∷ p3 ∷ p4 ∷ it) (shape0 r4 (omega arith))

pub shape5 : (parts : List Meaning) (p1 p2 p3 p4 p5 : Meaning) (r1 r2 r3 r4 r5 : List Meaning) → parts ≡ p1 ∷ r1 → r1 ≡ p2 ∷ r2
    → r2 ≡ p3 ∷ r3 → r3 ≡ p4 ∷ r4 → r4 ≡ p5 ∷ r5 →
    length parts ≡ 5 → parts ≡ p1 ∷ p2 ∷ p3 ∷ p4 ∷ p5 ∷ []
shape5 parts p1 p2 p3 p4 p5 r1 r2 r3 r4 r5 e1 e2 e3 e4 e5 n =
    let whole : parts ≡ p1 ∷ p2 ∷ p3 ∷ p4 ∷ p5 ∷ r5 = e1 ∙ ap (λ it. p1 ∷ it) e2 ∙ ap (λ it. p1 ∷ p2 ∷ it) e3
    ∙ ap (λ it. p1 ∷ p2 ∷ p3 ∷ it) e4 ∙ ap (λ it. p1 ∷ p2 ∷ p3 ∷ p4 ∷ it) e5 in
    let count : length parts ≡ length (p1 ∷ p2 ∷ p3 ∷ p4 ∷ p5 ∷ r5) = ap length whole in
    whole ∙ ap (λ it. p1 ∷ p2 ∷ p3 ∷ p4 ∷ p5 ∷ it) (shape0 r5 (omega arith))

pub shape6 : (parts : List Meaning) (p1 p2 p3 p4 p5 p6 : Meaning) (r1 r2 r3 r4 r5 r6 : List Meaning) → parts ≡ p1 ∷ r1 → r1 ≡ p2 ∷ r2
    → r2 ≡ p3 ∷ r3 → r3 ≡ p4 ∷ r4 → r4 ≡ p5 ∷ r5 → r5 ≡ p6 ∷ r6 →
    length parts ≡ 6 → parts ≡ p1 ∷ p2 ∷ p3 ∷ p4 ∷ p5 ∷ p6 ∷ []
shape6 parts p1 p2 p3 p4 p5 p6 r1 r2 r3 r4 r5 r6 e1 e2 e3 e4 e5 e6 n =
    let whole : parts ≡ p1 ∷ p2 ∷ p3 ∷ p4 ∷ p5 ∷ p6 ∷ r6 = e1 ∙ ap (λ it. p1 ∷ it) e2 ∙ ap (λ it. p1 ∷ p2 ∷ it) e3
    ∙ ap (λ it. p1 ∷ p2 ∷ p3 ∷ it) e4 ∙ ap (λ it. p1 ∷ p2 ∷ p3 ∷ p4 ∷ it) e5 ∙ ap (λ it. p1 ∷ p2 ∷ p3 ∷ p4 ∷ p5 ∷ it) e6 in
    let count : length parts ≡ length (p1 ∷ p2 ∷ p3 ∷ p4 ∷ p5 ∷ p6 ∷ r6) = ap length whole in
    whole ∙ ap (λ it. p1 ∷ p2 ∷ p3 ∷ p4 ∷ p5 ∷ p6 ∷ it) (shape0 r6 (omega arith))

pub action_in_is : (part : Meaning) (value : PlainActionEnd) → meant_action part ≡ Some value → part ≡ an_action value
action_in_is (an_action it) value e = let both : Some it ≡ Some value = e in ap an_action (cc)
action_in_is _ value e = let none : None ≡ Some value = e in absurd (cc)

pub after_base_in_is : (part : Meaning) (value : PlainAfterBase) → meant_after_base part ≡ Some value → part ≡ after_base value
after_base_in_is (after_base it) value e = let both : Some it ≡ Some value = e in ap after_base (cc)
after_base_in_is _ value e = let none : None ≡ Some value = e in absurd (cc)

pub after_term_in_is : (part : Meaning) (value : PlainAfterTerm) → meant_after_term part ≡ Some value → part ≡ after_term value
after_term_in_is (after_term it) value e = let both : Some it ≡ Some value = e in ap after_term (cc)
after_term_in_is _ value e = let none : None ≡ Some value = e in absurd (cc)

pub behaviour_in_is : (part : Meaning) (value : WrittenBehaviour) → meant_behaviour part ≡ Some value → part ≡ a_behaviour value
behaviour_in_is (a_behaviour it) value e = let both : Some it ≡ Some value = e in ap a_behaviour (cc)
behaviour_in_is _ value e = let none : None ≡ Some value = e in absurd (cc)

pub body_in_is : (part : Meaning) (value : WrittenTypeBody) → meant_body part ≡ Some value → part ≡ a_body value
body_in_is (a_body it) value e = let both : Some it ≡ Some value = e in ap a_body (cc)
body_in_is _ value e = let none : None ≡ Some value = e in absurd (cc)

pub both_pairs_in_is : (part : Meaning) (value : WrittenPairs) → meant_both_pairs part ≡ Some value → part ≡ both_pairs value
both_pairs_in_is (both_pairs it) value e = let both : Some it ≡ Some value = e in ap both_pairs (cc)
both_pairs_in_is _ value e = let none : None ≡ Some value = e in absurd (cc)

pub call_in_is : (part : Meaning) (value : PlainCallEnd) → meant_call part ≡ Some value → part ≡ a_call value
call_in_is (a_call it) value e = let both : Some it ≡ Some value = e in ap a_call (cc)
call_in_is _ value e = let none : None ≡ Some value = e in absurd (cc)

pub conclusion_in_is : (part : Meaning) (value : PlainConclusion) → meant_conclusion part ≡ Some value → part ≡ a_conclusion value
conclusion_in_is (a_conclusion it) value e = let both : Some it ≡ Some value = e in ap a_conclusion (cc)
conclusion_in_is _ value e = let none : None ≡ Some value = e in absurd (cc)

pub declared_operations_in_is : (part : Meaning) (value : (List WrittenOperation)) → meant_declared_operations part ≡ Some value
    → part ≡ declared_operations value
declared_operations_in_is (declared_operations it) value e = let both : Some it ≡ Some value = e in ap declared_operations (cc)
declared_operations_in_is _ value e = let none : None ≡ Some value = e in absurd (cc)

pub equation_in_is : (part : Meaning) (value : WrittenEquation) → meant_equation part ≡ Some value → part ≡ an_equation value
equation_in_is (an_equation it) value e = let both : Some it ≡ Some value = e in ap an_equation (cc)
equation_in_is _ value e = let none : None ≡ Some value = e in absurd (cc)

pub equation_section_in_is : (part : Meaning) (value : WrittenEquations) → meant_equation_section part ≡ Some value
    → part ≡ an_equation_section value
equation_section_in_is (an_equation_section it) value e = let both : Some it ≡ Some value = e in ap an_equation_section (cc)
equation_section_in_is _ value e = let none : None ≡ Some value = e in absurd (cc)

pub equations_in_is : (part : Meaning) (value : (List WrittenEquation)) → meant_equations part ≡ Some value → part ≡ some_equations value
equations_in_is (some_equations it) value e = let both : Some it ≡ Some value = e in ap some_equations (cc)
equations_in_is _ value e = let none : None ≡ Some value = e in absurd (cc)

pub exit_values_in_is : (part : Meaning) (value : (List WrittenExitValue)) → meant_exit_values part ≡ Some value
    → part ≡ some_exit_values value
exit_values_in_is (some_exit_values it) value e = let both : Some it ≡ Some value = e in ap some_exit_values (cc)
exit_values_in_is _ value e = let none : None ≡ Some value = e in absurd (cc)

pub factors_in_is : (part : Meaning) (value : (List (PlacedName × WrittenTerm))) → meant_factors part ≡ Some value
    → part ≡ some_factors value
factors_in_is (some_factors it) value e = let both : Some it ≡ Some value = e in ap some_factors (cc)
factors_in_is _ value e = let none : None ≡ Some value = e in absurd (cc)

pub functionality_in_is : (part : Meaning) (value : (Option (List PlacedName))) → meant_functionality part ≡ Some value
    → part ≡ a_functionality value
functionality_in_is (a_functionality it) value e = let both : Some it ≡ Some value = e in ap a_functionality (cc)
functionality_in_is _ value e = let none : None ≡ Some value = e in absurd (cc)

pub gate_choice_in_is : (part : Meaning) (value : PlainGateChoiceEnd) → meant_gate_choice part ≡ Some value → part ≡ a_gate_choice value
gate_choice_in_is (a_gate_choice it) value e = let both : Some it ≡ Some value = e in ap a_gate_choice (cc)
gate_choice_in_is _ value e = let none : None ≡ Some value = e in absurd (cc)

pub gate_choices_in_is : (part : Meaning) (value : (List WrittenGateChoice)) → meant_gate_choices part ≡ Some value
    → part ≡ some_gate_choices value
gate_choices_in_is (some_gate_choices it) value e = let both : Some it ≡ Some value = e in ap some_gate_choices (cc)
gate_choices_in_is _ value e = let none : None ≡ Some value = e in absurd (cc)

pub groups_in_is : (part : Meaning) (value : (List WrittenGroup)) → meant_groups part ≡ Some value → part ≡ some_groups value
groups_in_is (some_groups it) value e = let both : Some it ≡ Some value = e in ap some_groups (cc)
groups_in_is _ value e = let none : None ≡ Some value = e in absurd (cc)

pub heading_in_is : (part : Meaning) (value : WrittenHeading) → meant_heading part ≡ Some value → part ≡ a_heading value
heading_in_is (a_heading it) value e = let both : Some it ≡ Some value = e in ap a_heading (cc)
heading_in_is _ value e = let none : None ≡ Some value = e in absurd (cc)

pub inner_in_is : (part : Meaning) (value : (List WrittenInner)) → meant_inner part ≡ Some value → part ≡ some_inner value
inner_in_is (some_inner it) value e = let both : Some it ≡ Some value = e in ap some_inner (cc)
inner_in_is _ value e = let none : None ≡ Some value = e in absurd (cc)

pub item_in_is : (part : Meaning) (value : WrittenItem) → meant_item part ≡ Some value → part ≡ an_item value
item_in_is (an_item it) value e = let both : Some it ≡ Some value = e in ap an_item (cc)
item_in_is _ value e = let none : None ≡ Some value = e in absurd (cc)

pub items_in_is : (part : Meaning) (value : (List WrittenItem)) → meant_items part ≡ Some value → part ≡ some_items value
items_in_is (some_items it) value e = let both : Some it ≡ Some value = e in ap some_items (cc)
items_in_is _ value e = let none : None ≡ Some value = e in absurd (cc)

pub lets_in_is : (part : Meaning) (value : (List (WrittenVariable × WrittenTerm))) → meant_lets part ≡ Some value → part ≡ some_lets value
lets_in_is (some_lets it) value e = let both : Some it ≡ Some value = e in ap some_lets (cc)
lets_in_is _ value e = let none : None ≡ Some value = e in absurd (cc)

pub maybe_conclusion_in_is : (part : Meaning) (value : (Option PlainConclusion)) → meant_maybe_conclusion part ≡ Some value
    → part ≡ maybe_conclusion value
maybe_conclusion_in_is (maybe_conclusion it) value e = let both : Some it ≡ Some value = e in ap maybe_conclusion (cc)
maybe_conclusion_in_is _ value e = let none : None ≡ Some value = e in absurd (cc)

pub maybe_name_in_is : (part : Meaning) (value : (Option PlacedName)) → meant_maybe_name part ≡ Some value → part ≡ maybe_name value
maybe_name_in_is (maybe_name it) value e = let both : Some it ≡ Some value = e in ap maybe_name (cc)
maybe_name_in_is _ value e = let none : None ≡ Some value = e in absurd (cc)

pub maybe_profile_in_is : (part : Meaning) (value : (Option PlacedProfile)) → meant_maybe_profile part ≡ Some value
    → part ≡ maybe_profile value
maybe_profile_in_is (maybe_profile it) value e = let both : Some it ≡ Some value = e in ap maybe_profile (cc)
maybe_profile_in_is _ value e = let none : None ≡ Some value = e in absurd (cc)

pub maybe_term_in_is : (part : Meaning) (value : (Option WrittenTerm)) → meant_maybe_term part ≡ Some value → part ≡ maybe_term value
maybe_term_in_is (maybe_term it) value e = let both : Some it ≡ Some value = e in ap maybe_term (cc)
maybe_term_in_is _ value e = let none : None ≡ Some value = e in absurd (cc)

pub name_in_is : (part : Meaning) (value : PlacedName) → meant_name part ≡ Some value → part ≡ a_name value
name_in_is (a_name it) value e = let both : Some it ≡ Some value = e in ap a_name (cc)
name_in_is _ value e = let none : None ≡ Some value = e in absurd (cc)

pub names_in_is : (part : Meaning) (value : (List PlacedName)) → meant_names part ≡ Some value → part ≡ some_names value
names_in_is (some_names it) value e = let both : Some it ≡ Some value = e in ap some_names (cc)
names_in_is _ value e = let none : None ≡ Some value = e in absurd (cc)

pub offers_in_is : (part : Meaning) (value : (List WrittenOffer)) → meant_offers part ≡ Some value → part ≡ some_offers value
offers_in_is (some_offers it) value e = let both : Some it ≡ Some value = e in ap some_offers (cc)
offers_in_is _ value e = let none : None ≡ Some value = e in absurd (cc)

pub operands_in_is : (part : Meaning) (value : PlainFlat) → meant_operands part ≡ Some value → part ≡ some_operands value
operands_in_is (some_operands it) value e = let both : Some it ≡ Some value = e in ap some_operands (cc)
operands_in_is _ value e = let none : None ≡ Some value = e in absurd (cc)

pub operation_in_is : (part : Meaning) (value : NamedOperation) → meant_operation part ≡ Some value → part ≡ an_operation value
operation_in_is (an_operation it) value e = let both : Some it ≡ Some value = e in ap an_operation (cc)
operation_in_is _ value e = let none : None ≡ Some value = e in absurd (cc)

pub operations_in_is : (part : Meaning) (value : (List NamedOperation)) → meant_operations part ≡ Some value
    → part ≡ some_named_operations value
operations_in_is (some_named_operations it) value e = let both : Some it ≡ Some value = e in ap some_named_operations (cc)
operations_in_is _ value e = let none : None ≡ Some value = e in absurd (cc)

pub order_items_in_is : (part : Meaning) (value : (List ListedOperation)) → meant_order_items part ≡ Some value
    → part ≡ some_order_items value
order_items_in_is (some_order_items it) value e = let both : Some it ≡ Some value = e in ap some_order_items (cc)
order_items_in_is _ value e = let none : None ≡ Some value = e in absurd (cc)

pub pairs_in_is : (part : Meaning) (value : (List WrittenPair)) → meant_pairs part ≡ Some value → part ≡ some_pairs value
pairs_in_is (some_pairs it) value e = let both : Some it ≡ Some value = e in ap some_pairs (cc)
pairs_in_is _ value e = let none : None ≡ Some value = e in absurd (cc)

pub premiss_in_is : (part : Meaning) (value : WrittenPremiss) → meant_premiss part ≡ Some value → part ≡ a_premiss value
premiss_in_is (a_premiss it) value e = let both : Some it ≡ Some value = e in ap a_premiss (cc)
premiss_in_is _ value e = let none : None ≡ Some value = e in absurd (cc)

pub process_in_is : (part : Meaning) (value : WrittenInner) → meant_process part ≡ Some value → part ≡ a_process value
process_in_is (a_process it) value e = let both : Some it ≡ Some value = e in ap a_process (cc)
process_in_is _ value e = let none : None ≡ Some value = e in absurd (cc)

pub profile_in_is : (part : Meaning) (value : PlacedProfile) → meant_profile part ≡ Some value → part ≡ a_profile value
profile_in_is (a_profile it) value e = let both : Some it ≡ Some value = e in ap a_profile (cc)
profile_in_is _ value e = let none : None ≡ Some value = e in absurd (cc)

pub sections_in_is : (part : Meaning) (value : WrittenSections) → meant_sections part ≡ Some value → part ≡ some_sections value
sections_in_is (some_sections it) value e = let both : Some it ≡ Some value = e in ap some_sections (cc)
sections_in_is _ value e = let none : None ≡ Some value = e in absurd (cc)

pub sign_in_is : (part : Meaning) (value : PlacedSign) → meant_sign part ≡ Some value → part ≡ a_sign value
sign_in_is (a_sign it) value e = let both : Some it ≡ Some value = e in ap a_sign (cc)
sign_in_is _ value e = let none : None ≡ Some value = e in absurd (cc)

pub term_in_is : (part : Meaning) (value : PlainStartedTerm) → meant_term part ≡ Some value → part ≡ a_term value
term_in_is (a_term it) value e = let both : Some it ≡ Some value = e in ap a_term (cc)
term_in_is _ value e = let none : None ≡ Some value = e in absurd (cc)

pub terms_in_is : (part : Meaning) (value : (List WrittenTerm)) → meant_terms part ≡ Some value → part ≡ some_terms value
terms_in_is (some_terms it) value e = let both : Some it ≡ Some value = e in ap some_terms (cc)
terms_in_is _ value e = let none : None ≡ Some value = e in absurd (cc)

pub value_choice_in_is : (part : Meaning) (value : PlainValueChoiceEnd) → meant_value_choice part ≡ Some value → part ≡ a_value_choice value
value_choice_in_is (a_value_choice it) value e = let both : Some it ≡ Some value = e in ap a_value_choice (cc)
value_choice_in_is _ value e = let none : None ≡ Some value = e in absurd (cc)

pub variables_in_is : (part : Meaning) (value : (List WrittenVariable)) → meant_variables part ≡ Some value → part ≡ some_variables value
variables_in_is (some_variables it) value e = let both : Some it ≡ Some value = e in ap some_variables (cc)
variables_in_is _ value e = let none : None ≡ Some value = e in absurd (cc)

pub word_in_is : (part : Meaning) (value : (Unit {0})) → meant_word part ≡ Some value → part ≡ a_word value
word_in_is (a_word it) value e = let both : Some it ≡ Some value = e in ap a_word (cc)
word_in_is _ value e = let none : None ≡ Some value = e in absurd (cc)
