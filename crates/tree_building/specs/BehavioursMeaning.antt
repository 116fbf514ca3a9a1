-- What the rows of behaviours mean, from what their parts mean.
use Rattle.std.specs.Prelude.{ℕ, List, [], ◌∷◌, ◌++◌, map, Option, Some, None, option_map, option_and_then}
use Rattle.lotos_base.specs.Equation as plain
use Rattle.lotos_base.specs.WrittenTerm.{PlacedName}
use Rattle.lotos_rows.specs.HandedOn.{Token}
use Rattle.syntax_trees.specs.WrittenEquation.{WrittenPremiss}
use Rattle.syntax_trees.specs.WrittenBehaviour.{WrittenSign, choice_sign, interleaving, full_synchronisation, synchronising, disabling, enabling, exit_term, exit_any, WrittenOffer, offer_value, offer_variable, WrittenBehaviour, stop, exit, call, action, inner_action, guard, hide, let_be, choose_value, choose_gate, par_gate}
use Rattle.syntax_trees.specs.Strength.{PlacedSign, strength_of, joined_by_sign}
use Rattle.syntax_trees.specs.Grouping.{grouped}
use Rattle.lotos_rows.specs.Names.{place_of, variables_of_sort}
use Rattle.lotos_rows.specs.Behaviours.{before_first, variable_named, gate_choices_among}
use Rattle.tree_building.specs.Meaning.{PlainFlat, PlainActionEnd, PlainCallEnd, Meaning, some_variables, some_operands, an_action, a_call, some_offers, some_exit_values, some_lets, some_gate_choices, a_value_choice, a_gate_choice, a_behaviour, a_sign}
use Rattle.tree_building.specs.Parts.{with_next, meant_name, meant_names, meant_variables, meant_term, meant_terms, meant_premiss, meant_operands, meant_action, meant_call, meant_offers, meant_exit_values, meant_lets, meant_gate_choices, meant_value_choice, meant_gate_choice, meant_behaviour, meant_sign}

-- what comes of the tree of a flat list
abbrev pub with_grouped : {B : Type 0} → PlainFlat → (WrittenBehaviour → Option B) → Option B
with_grouped flat next = option_and_then next (grouped strength_of joined_by_sign flat.operands flat.signs)

-- a flat list of one operand
abbrev pub operand_alone : WrittenBehaviour → Meaning
operand_alone behaviour = some_operands (record { operands = behaviour ∷ []; signs = [] })

-- an operand before the tail of a flat list
abbrev pub before_tail : WrittenBehaviour → PlainFlat → Meaning
before_tail behaviour tail = some_operands (record { operands = behaviour ∷ tail.operands; signs = tail.signs })

-- a flat list with something in front of its first operand
abbrev pub prefixed : (WrittenBehaviour → WrittenBehaviour) → PlainFlat → Meaning
prefixed prefix flat = some_operands (record { operands = before_first prefix flat.operands; signs = flat.signs })

-- "hide" names "in" behaviour
abbrev pub hidden : Option Token → List Meaning → Option Meaning
hidden token parts =
    option_and_then (λ word. with_next meant_names parts (λ gates parts. with_next meant_operands parts (λ flat parts.
    with_grouped flat (λ inside. Some (operand_alone (hide (place_of word) gates inside)))))) token

-- "let" let_list "in" behaviour
abbrev pub let_in : Option Token → List Meaning → Option Meaning
let_in token parts =
    option_and_then (λ word. with_next meant_lets parts (λ values parts. with_next meant_operands parts (λ flat parts.
    with_grouped flat (λ inside. Some (operand_alone (let_be (place_of word) values inside)))))) token

-- "choice" names after_choice, for values
abbrev pub choice_of_values : plain.Place → List PlacedName → List Meaning → Option Meaning
choice_of_values place names parts =
    with_next meant_value_choice parts (λ end parts.
    Some (operand_alone (choose_value place (variables_of_sort names end.sort ++ end.more) end.inside)))

-- "choice" names after_choice, for gates
abbrev pub choice_of_gates : plain.Place → List PlacedName → List Meaning → Option Meaning
choice_of_gates place names parts =
    with_next meant_gate_choice parts (λ end parts.
    Some (operand_alone (choose_gate place (gate_choices_among names end.among ++ end.more) end.inside)))

-- the first that is something
abbrev pub or_else : {A : Type 0} → Option A → Option A → Option A
or_else (Some one) other = Some one
or_else None other = other

-- "choice" names after_choice
abbrev pub choice_after_word : Option Token → List Meaning → Option Meaning
choice_after_word token parts =
    option_and_then (λ word. with_next meant_names parts (λ names parts.
    or_else (choice_of_values (place_of word) names parts) (choice_of_gates (place_of word) names parts))) token

-- "par" gate_choices parallel behaviour
abbrev pub par_after_word : Option Token → List Meaning → Option Meaning
par_after_word token parts =
    option_and_then (λ word. with_next meant_gate_choices parts
    (λ gates parts. with_next meant_sign parts (λ sign parts. with_next meant_operands parts (λ flat parts.
    with_grouped flat (λ inside. Some (operand_alone (par_gate (place_of word) gates sign.sign inside))))))) token

-- "i" ";" behaviour
abbrev pub inner_prefixed : Option Token → List Meaning → Option Meaning
inner_prefixed token parts =
    option_and_then (λ word. with_next meant_operands parts (λ flat parts. Some (prefixed (inner_action (place_of word)) flat))) token

-- "[" premiss "]" "->" behaviour
abbrev pub guarded : Option Token → List Meaning → Option Meaning
guarded token parts =
    option_and_then (λ left. with_next meant_premiss parts (λ test parts. with_next meant_operands parts (λ flat parts.
    Some (prefixed (guard (place_of left) test) flat)))) token

-- name after_name, for an action
abbrev pub action_of_gate : PlacedName → List Meaning → Option Meaning
action_of_gate gate parts =
    with_next meant_action parts (λ end parts. Some (prefixed (action gate.place gate.name end.offers end.test) end.behind))

-- name after_name, for a call
abbrev pub call_of_process : PlacedName → List Meaning → Option Meaning
call_of_process name parts =
    with_next meant_call parts (λ end parts. Some (before_tail (call name.place name.name end.gates end.values) end.behind))

-- name after_name
abbrev pub name_first : List Meaning → Option Meaning
name_first parts = with_next meant_name parts (λ name parts. or_else (action_of_gate name parts) (call_of_process name parts))

-- "stop" behaviour_tail
abbrev pub stopped : Option Token → List Meaning → Option Meaning
stopped token parts =
    option_and_then (λ word. with_next meant_operands parts (λ tail parts. Some (before_tail (stop (place_of word)) tail)))
    token

-- "exit" exit_values behaviour_tail
abbrev pub exited : Option Token → List Meaning → Option Meaning
exited token parts =
    option_and_then (λ word. with_next meant_exit_values parts (λ values parts. with_next meant_operands parts (λ tail parts.
    Some (before_tail (exit (place_of word) values) tail)))) token

-- "(" behaviour ")" behaviour_tail
abbrev pub bracketed_behaviour : List Meaning → Option Meaning
bracketed_behaviour parts =
    with_next meant_operands parts (λ flat parts. with_next meant_operands parts
    (λ tail parts. with_grouped flat (λ inside. Some (before_tail inside tail))))

abbrev pub no_tail : Option Meaning
no_tail = Some (some_operands (record { operands = []; signs = [] }))

-- sign behaviour
abbrev pub sign_before_behaviour : List Meaning → Option Meaning
sign_before_behaviour parts =
    with_next meant_sign parts (λ sign parts. with_next meant_operands parts (λ flat parts.
    Some (some_operands (record { operands = flat.operands; signs = sign ∷ flat.signs }))))

-- ";" behaviour
abbrev pub action_without_offers : List Meaning → Option Meaning
action_without_offers parts = with_next meant_operands parts
    (λ flat parts. Some (an_action (record { offers = []; test = None; behind = flat })))

-- offer after_offer
abbrev pub offers_before_action : List Meaning → Option Meaning
offers_before_action parts =
    with_next meant_offers parts (λ offers parts. with_next meant_action parts (λ end parts.
    Some (an_action (record { offers = offers ++ end.offers; test = end.test; behind = end.behind }))))

-- "[" premiss "]" ";" behaviour
abbrev pub action_with_selection : List Meaning → Option Meaning
action_with_selection parts =
    with_next meant_premiss parts (λ test parts. with_next meant_operands parts (λ flat parts.
    Some (an_action (record { offers = []; test = Some test; behind = flat }))))

-- optional_gates arguments behaviour_tail
abbrev pub call_without_name : List Meaning → Option Meaning
call_without_name parts =
    with_next meant_names parts (λ gates parts. with_next meant_terms parts (λ values parts. with_next meant_operands parts (λ tail parts.
    Some (a_call (record { gates = gates; values = values; behind = tail })))))

-- "!" term
abbrev pub offer_of_value : List Meaning → Option Meaning
offer_of_value parts = with_next meant_term parts (λ term parts. Some (some_offers (offer_value term.term ∷ [])))

-- "?" names ":" name
abbrev pub offers_of_variables : List Meaning → Option Meaning
offers_of_variables parts =
    with_next meant_names parts (λ names parts. with_next meant_name parts
    (λ sort parts. Some (some_offers (map offer_variable (variables_of_sort names sort)))))

abbrev pub no_exit_values : Option Meaning
no_exit_values = Some (some_exit_values [])

abbrev pub same_exit_values : List Meaning → Option Meaning
same_exit_values parts = with_next meant_exit_values parts (λ values parts. Some (some_exit_values values))

-- "any" name more_exit_values
abbrev pub any_before_exit_values : List Meaning → Option Meaning
any_before_exit_values parts =
    with_next meant_name parts
    (λ sort parts. with_next meant_exit_values parts (λ more parts. Some (some_exit_values (exit_any sort ∷ more))))

-- term more_exit_values
abbrev pub term_before_exit_values : List Meaning → Option Meaning
term_before_exit_values parts =
    with_next meant_term parts (λ term parts. with_next meant_exit_values parts
    (λ more parts. Some (some_exit_values (exit_term term.term ∷ more))))

-- name ":" name "=" term more_lets
abbrev pub let_before_lets : List Meaning → Option Meaning
let_before_lets parts =
    with_next meant_name parts (λ variable parts. with_next meant_name parts
    (λ sort parts. with_next meant_term parts (λ term parts. with_next meant_lets parts (λ more parts.
    Some (some_lets ((variable_named variable sort, term.term) ∷ more))))))

abbrev pub no_lets : Option Meaning
no_lets = Some (some_lets [])

abbrev pub same_lets : List Meaning → Option Meaning
same_lets parts = with_next meant_lets parts (λ lets parts. Some (some_lets lets))

-- ":" name more_variables chosen
abbrev pub value_choice_end : List Meaning → Option Meaning
value_choice_end parts =
    with_next meant_name parts
    (λ sort parts. with_next meant_variables parts (λ more parts. with_next meant_behaviour parts (λ inside parts.
    Some (a_value_choice (record { sort = sort; more = more; inside = inside })))))

-- "in" gates more_gate_choices chosen
abbrev pub gate_choice_end : List Meaning → Option Meaning
gate_choice_end parts =
    with_next meant_names parts
    (λ among parts. with_next meant_gate_choices parts (λ more parts. with_next meant_behaviour parts (λ inside parts.
    Some (a_gate_choice (record { among = among; more = more; inside = inside })))))

-- "[]" behaviour
abbrev pub chosen : List Meaning → Option Meaning
chosen parts = with_next meant_operands parts (λ flat parts. with_grouped flat (λ inside. Some (a_behaviour inside)))

-- names "in" gates more_gate_choices
abbrev pub gates_before_gate_choices : List Meaning → Option Meaning
gates_before_gate_choices parts =
    with_next meant_names parts
    (λ names parts. with_next meant_names parts (λ among parts. with_next meant_gate_choices parts (λ more parts.
    Some (some_gate_choices (gate_choices_among names among ++ more)))))

abbrev pub no_gate_choices : Option Meaning
no_gate_choices = Some (some_gate_choices [])

abbrev pub same_gate_choices : List Meaning → Option Meaning
same_gate_choices parts = with_next meant_gate_choices parts (λ gates parts. Some (some_gate_choices gates))

-- a sign that is its token
abbrev pub sign_of_token : WrittenSign → Option Token → Option Meaning
sign_of_token sign token = option_map (λ token. a_sign (record { place = place_of token; sign = sign })) token

abbrev pub same_sign : List Meaning → Option Meaning
same_sign parts = with_next meant_sign parts (λ sign parts. Some (a_sign sign))

-- ">>" accept
abbrev pub enabling_sign : Option Token → List Meaning → Option Meaning
enabling_sign token parts =
    option_and_then (λ token. with_next meant_variables parts
    (λ accepted parts. Some (a_sign (record { place = place_of token; sign = enabling accepted })))) token

-- "|[" optional_names "]|"
abbrev pub gates_sign : Option Token → List Meaning → Option Meaning
gates_sign token parts =
    option_and_then (λ token. with_next meant_names parts (λ gates parts.
    Some (a_sign (record { place = place_of token; sign = synchronising gates })))) token
