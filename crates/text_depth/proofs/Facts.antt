-- What is kept of parts whose trees count from their own roots, of flat lists, and of the forms of behaviours.
use Rattle.std.proofs.Common.{◌≡◌, ◌∙◌, ℕ, Bool, true, false, List, [], ◌∷◌, ◌++◌, map, Some, None, refl, ap, sym, append-nil, append_assoc}
use Rattle.std.specs.Prelude.{◌&&◌, Option, option_map, flat_map, fold}
use Rattle.std.specs.Option.{option_or}
use Rattle.std.proofs.lemmas.List.{map-append}
use Rattle.std.proofs.lemmas.Bool.{and_parts}
use Rattle.lotos_base.specs.Equation.{Place}
use Rattle.lotos_base.specs.WrittenTerm.{PlacedName, WrittenTerm, written, no_written, written_then, written_terms}
use Rattle.lotos_rows.specs.Names.{variables_of_sort}
use Rattle.lotos_rows.specs.Terms.{applied, infix_term}
use Rattle.lotos_rows.specs.Behaviours.{before_first, gate_choices_among}
use Rattle.syntax_trees.specs.WrittenVariable.{WrittenVariable}
use Rattle.syntax_trees.specs.WrittenEquation.{WrittenPremiss}
use Rattle.syntax_trees.specs.WrittenBehaviour.{WrittenGateChoice, WrittenOffer, offer_variable, WrittenBehaviour, action, inner_action, guard}
use Rattle.syntax_trees.specs.Strength.{strength_of, joined_by_sign}
use Rattle.syntax_trees.specs.Grouping.{grouped}
use Rattle.syntax_trees.specs.LeftGrouping.{grouped_left}
use Rattle.syntax_trees.specs.Depth.{TreeNode, first_deeper, nodes_of_term, nodes_of_terms, nodes_of_offer, nodes_of_maybe_premiss, nodes_of_type_body, nodes_of_premiss, behaviour_nodes}
use Rattle.syntax_trees.specs.Firsts.{Firsts, first_from, no_nodes, everywhere, firsts_followed, firsts_below, firsts_between}
use Rattle.syntax_trees.specs.TreeFirsts.{term_firsts, terms_firsts, behaviour_firsts}
use Rattle.syntax_trees.proofs.FirstsLemmas.{followed-from, followed-none}
use Rattle.syntax_trees.proofs.TreeDepths.{first_deeper-append, tells}
use Rattle.syntax_trees.proofs.DepthGroupings.{firsts_grouped}
use Rattle.tree_building.specs.Meaning.{PlainFlat, PlainAfterBase, renamed, actualised, extended, a_behaviour, a_call, a_gate_choice, a_name, a_sign, a_term, a_value_choice, an_action, some_factors, some_gate_choices, some_names, some_operands, some_terms, some_variables, Meaning}
use Rattle.tree_building.specs.TermsMeaning.{with_written_sorts}
use Rattle.tree_building.specs.TypesMeaning.{body_from}
use Rattle.text_depth.specs.MeaningNodes.{nodes_in, nodes_of_after_base}
use Rattle.text_depth.specs.DepthPart.{DepthPart, of_firsts, before_first_operand, places_of_names, places_of_variables, gate_places, operands_firsts, depth_of}
use Rattle.text_depth.specs.RowDepth.{or_no_nodes, grouped_firsts, closed_firsts, closed_part, closed_parts, closing_parts, below_first}

pub row : (limit : ℕ) (act : List DepthPart → Option DepthPart) (parts shown : List Meaning) (x m : Meaning) → parts ≡ shown →
    Some x ≡ Some m → act (map (depth_of limit) shown) ≡ Some (depth_of limit x) →
    act (map (depth_of limit) parts) ≡ Some (depth_of limit m)
row limit act parts shown x m e f fact =
    ap (λ it. act (map (depth_of limit) it)) e ∙ fact ∙ (let same : x ≡ m = cc in ap (λ it. Some (depth_of limit it)) same)

followed_everywhere : (some other : Option Place) → firsts_followed (everywhere some) (everywhere other) ≡ everywhere (option_or some other)
followed_everywhere None other = refl
followed_everywhere (Some place) other = refl

pub followed_twice : (some other : Option Place) (firsts : Firsts) →
    firsts_followed (everywhere some) (firsts_followed (everywhere other) firsts)
    ≡ firsts_followed (everywhere (option_or some other)) firsts
followed_twice None other firsts = refl
followed_twice (Some place) other firsts = refl

pub everywhere-append : (limit : ℕ) (some others : List TreeNode) →
    everywhere (first_deeper limit (some ++ others)) ≡ firsts_followed (everywhere (first_deeper limit some))
    (everywhere (first_deeper limit others))
everywhere-append limit some others =
    ap everywhere (first_deeper-append limit some others) ∙ sym (followed_everywhere (first_deeper limit some) (first_deeper limit others))

everywhere-closed : (limit : ℕ) (place : Option Place) → closed_part limit (of_firsts (everywhere place)) ≡ everywhere place
everywhere-closed limit place = ap (closed_firsts limit) (followed-none (everywhere place))

pub terms_deeper : (limit : ℕ) (terms : List WrittenTerm) →
    first_deeper limit (nodes_of_terms terms) ≡ first_from (terms_firsts (written_terms terms)) limit
terms_deeper limit [] = refl
terms_deeper limit (term ∷ terms) =
    first_deeper-append limit (nodes_of_term term) (nodes_of_terms terms)
    ∙ ap (λ it. option_or it (first_deeper limit (nodes_of_terms terms))) (tells.term limit term)
    ∙ ap (λ it. option_or (first_from (term_firsts term) limit) it) (terms_deeper limit terms)
    ∙ sym (followed-from (term_firsts term) (terms_firsts (written_terms terms)) limit)

abbrev pub closable : Meaning → Bool
closable (some_factors factors) = false
closable (some_operands flat) = false
closable (an_action end) = false
closable (a_call end) = false
closable (a_value_choice end) = false
closable (a_gate_choice end) = false
closable (a_behaviour behaviour) = false
closable (a_sign sign) = false
closable _ = true

pub closed_is : (limit : ℕ) (m : Meaning) → closable m ≡ true →
    closed_part limit (depth_of limit m) ≡ everywhere (first_deeper limit (nodes_in m))
closed_is limit (some_factors factors) h = absurd (cc)
closed_is limit (some_operands flat) h = absurd (cc)
closed_is limit (an_action end) h = absurd (cc)
closed_is limit (a_call end) h = absurd (cc)
closed_is limit (a_value_choice end) h = absurd (cc)
closed_is limit (a_gate_choice end) h = absurd (cc)
closed_is limit (a_behaviour behaviour) h = absurd (cc)
closed_is limit (a_sign sign) h = absurd (cc)
closed_is limit (a_name name) h = refl
closed_is limit (some_names names) h = refl
closed_is limit (some_variables variables) h = refl
closed_is limit (some_gate_choices gates) h = refl
closed_is limit (a_term term) h =
    ap (closed_firsts limit) (followed-none (term_firsts term.term)) ∙ ap everywhere (sym (tells.term limit term.term))
closed_is limit (some_terms terms) h =
    ap (closed_firsts limit) (followed-none (terms_firsts (written_terms terms))) ∙ ap everywhere (sym (terms_deeper limit terms))
closed_is limit other h = everywhere-closed limit (first_deeper limit (nodes_in other))

abbrev pub all_closable : List Meaning → Bool
all_closable [] = true
all_closable (part ∷ parts) = closable part && all_closable parts

pub one_more_closed : (limit : ℕ) (part : DepthPart) (parts : List DepthPart) (some others : List TreeNode) →
    closed_part limit part ≡ everywhere (first_deeper limit some) → closed_parts limit parts ≡ everywhere (first_deeper limit others) →
    closed_parts limit (part ∷ parts) ≡ everywhere (first_deeper limit (some ++ others))
one_more_closed limit part parts some others e f =
    ap (λ it. firsts_followed it (closed_parts limit parts)) e ∙ ap (firsts_followed (everywhere (first_deeper limit some))) f
    ∙ sym (everywhere-append limit some others)

pub all_closed : (limit : ℕ) (parts : List Meaning) → all_closable parts ≡ true →
    closed_parts limit (map (depth_of limit) parts) ≡ everywhere (first_deeper limit (flat_map nodes_in parts))
all_closed limit [] h = refl
all_closed limit (part ∷ parts) h =
    let both = and_parts (closable part) (all_closable parts) h in
    one_more_closed limit (depth_of limit part) (map (depth_of limit) parts) (nodes_in part) (flat_map nodes_in parts)
    (closed_is limit part both.0) (all_closed limit parts both.1)

pub closes : (limit : ℕ) (shown : List Meaning) (x : Meaning) → all_closable shown ≡ true → flat_map nodes_in shown ≡ nodes_in x →
    closing_parts limit (map (depth_of limit) shown) ≡ Some (of_firsts (everywhere (first_deeper limit (nodes_in x))))
closes limit shown x h e = ap (λ it. Some (of_firsts it)) (all_closed limit shown h ∙ ap (λ it. everywhere (first_deeper limit it)) e)

-- the tree of a flat list
pub grouped_is : (limit : ℕ) (flat : PlainFlat) (tree : WrittenBehaviour)
    → grouped strength_of joined_by_sign flat.operands flat.signs ≡ Some tree →
    grouped_firsts (depth_of limit (some_operands flat)) ≡ behaviour_firsts limit tree
grouped_is limit flat tree e =
    ap or_no_nodes (sym (firsts_grouped limit flat.operands flat.signs) ∙ ap (option_map (behaviour_firsts limit)) e)

pub closed_flat : (limit : ℕ) (flat : PlainFlat) (tree : WrittenBehaviour)
    → grouped strength_of joined_by_sign flat.operands flat.signs ≡ Some tree →
    closed_part limit (depth_of limit (some_operands flat)) ≡ everywhere (first_deeper limit (behaviour_nodes 1 tree))
closed_flat limit flat tree e = ap (closed_firsts limit) (grouped_is limit flat tree e) ∙ ap everywhere (sym (tells.behaviour limit tree))

-- terms
pub with_sorts_firsts : (sorts : List PlacedName) (term : WrittenTerm) → term_firsts (with_written_sorts sorts term) ≡ term_firsts term
with_sorts_firsts sorts (written head no_written) = refl
with_sorts_firsts sorts (written head (written_then first others)) = refl

pub applied_firsts : (name : PlacedName) (sorts : List PlacedName) (arguments : List WrittenTerm) →
    term_firsts (with_written_sorts sorts (applied name arguments)) ≡ firsts_below name.place (terms_firsts (written_terms arguments))
applied_firsts name sorts [] = refl
applied_firsts name sorts (first ∷ others) = refl

pub factors_firsts : (first : WrittenTerm) (more : List (PlacedName × WrittenTerm)) →
    fold firsts_between (term_firsts first) (map (λ factor. term_firsts factor.1) more) ≡ term_firsts (grouped_left infix_term first more)
factors_firsts first [] = refl
factors_firsts first (factor ∷ more) =
    ap (λ it. fold firsts_between (firsts_between (term_firsts first) it) (map (λ next. term_firsts next.1) more))
    (sym (followed-none (term_firsts factor.1)))
    ∙ factors_firsts (infix_term factor.0 first factor.1) more

-- names that are declared
variables_named : (names : List PlacedName) (sort : PlacedName) → places_of_variables (variables_of_sort names sort) ≡ places_of_names names
variables_named [] sort = refl
variables_named (name ∷ names) sort = ap (λ it. name.place ∷ it) (variables_named names sort)

pub variables_together : (names : List PlacedName) (sort : PlacedName) (more : List WrittenVariable) →
    places_of_names names ++ places_of_variables more ≡ places_of_variables (variables_of_sort names sort ++ more)
variables_together names sort more =
    ap (λ it. it ++ places_of_variables more) (sym (variables_named names sort))
    ∙ sym (map-append (λ variable. variable.place) (variables_of_sort names sort) more)

gates_named : (names among : List PlacedName) → gate_places (gate_choices_among names among) ≡ places_of_names names
gates_named [] among = refl
gates_named (name ∷ names) among = ap (λ it. name.place ∷ it) (gates_named names among)

pub gates_together : (names among : List PlacedName) (more : List WrittenGateChoice) →
    places_of_names names ++ gate_places more ≡ gate_places (gate_choices_among names among ++ more)
gates_together names among more =
    ap (λ it. it ++ gate_places more) (sym (gates_named names among))
    ∙ sym (map-append (λ gate. gate.place) (gate_choices_among names among) more)

pub no_offered : (variables : List WrittenVariable) → [] ≡ flat_map nodes_of_offer (map offer_variable variables)
no_offered [] = refl
no_offered (variable ∷ variables) = no_offered variables

-- what stands in front of the first operand
pub inner_first : (limit : ℕ) (place : Place) (operands : List WrittenBehaviour) →
    below_first place (operands_firsts limit operands) ≡ operands_firsts limit (before_first (inner_action place) operands)
inner_first limit place [] = refl
inner_first limit place (first ∷ others) = refl

pub guard_first : (limit : ℕ) (place : Place) (test : WrittenPremiss) (operands : List WrittenBehaviour) →
    below_first place
    (before_first_operand (everywhere (first_deeper limit (nodes_of_premiss test))) (operands_firsts limit operands))
    ≡ operands_firsts limit (before_first (guard place test) operands)
guard_first limit place test [] = refl
guard_first limit place test (first ∷ others) = refl

pub action_first : (limit : ℕ) (place : Place) (gate : List ℕ) (offers : List WrittenOffer) (test : Option WrittenPremiss)
    (operands : List WrittenBehaviour) →
    below_first place
    (before_first_operand (everywhere (first_deeper limit (flat_map nodes_of_offer offers ++ nodes_of_maybe_premiss test)))
    (operands_firsts limit operands))
    ≡ operands_firsts limit (before_first (action place gate offers test) operands)
action_first limit place gate offers test [] = refl
action_first limit place gate offers test (first ∷ others) = refl

pub nothing_first : (operands : List Firsts) → operands ≡ before_first_operand no_nodes operands
nothing_first [] = refl
nothing_first (first ∷ others) = refl

flat_map-parts : (some others : List WrittenOffer) →
    flat_map nodes_of_offer (some ++ others) ≡ flat_map nodes_of_offer some ++ flat_map nodes_of_offer others
flat_map-parts [] others = refl
flat_map-parts (offer ∷ some) others =
    ap (λ it. nodes_of_offer offer ++ it) (flat_map-parts some others)
    ∙ sym (append_assoc (nodes_of_offer offer) (flat_map nodes_of_offer some) (flat_map nodes_of_offer others))

twice_first : (some other : Option Place) (operands : List Firsts) →
    before_first_operand (everywhere some) (before_first_operand (everywhere other) operands)
    ≡ before_first_operand (everywhere (option_or some other)) operands
twice_first some other [] = refl
twice_first some other (first ∷ others) = ap (λ it. it ∷ others) (followed_twice some other first)

pub offers_first : (limit : ℕ) (some others : List WrittenOffer) (test : Option WrittenPremiss) (operands : List Firsts) →
    before_first_operand (everywhere (first_deeper limit (flat_map nodes_of_offer some)))
    (before_first_operand (everywhere (first_deeper limit (flat_map nodes_of_offer others ++ nodes_of_maybe_premiss test))) operands)
    ≡ before_first_operand
    (everywhere (first_deeper limit (flat_map nodes_of_offer (some ++ others) ++ nodes_of_maybe_premiss test))) operands
offers_first limit some others test operands =
    let rest = flat_map nodes_of_offer others ++ nodes_of_maybe_premiss test in
    twice_first (first_deeper limit (flat_map nodes_of_offer some)) (first_deeper limit rest) operands
    ∙ ap (λ it. before_first_operand (everywhere it) operands) (sym (first_deeper-append limit (flat_map nodes_of_offer some) rest))
    ∙ ap (λ it. before_first_operand (everywhere (first_deeper limit it)) operands)
    (sym (append_assoc (flat_map nodes_of_offer some) (flat_map nodes_of_offer others) (nodes_of_maybe_premiss test))
    ∙ ap (λ it. it ++ nodes_of_maybe_premiss test) (sym (flat_map-parts some others)))

-- types
pub body_nodes : (base : PlacedName) (after : PlainAfterBase) → nodes_of_after_base after ++ [] ≡ nodes_of_type_body (body_from base after)
body_nodes base (renamed pairs) = refl
body_nodes base (actualised actuals pairs) = refl
body_nodes base (extended imports sections) = append-nil _
