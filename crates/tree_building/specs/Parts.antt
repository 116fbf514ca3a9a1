-- The parts of a row from left to right: the first one, where it is of a kind, and those behind it.
use Rattle.std.specs.Prelude.{ℕ, List, [], ◌∷◌, Option, Some, None, option_map, option_and_then}
use Rattle.lotos_base.specs.WrittenTerm.{PlacedName, WrittenTerm, ListedOperation}
use Rattle.syntax_trees.specs.WrittenVariable.{WrittenVariable}
use Rattle.syntax_trees.specs.WrittenEquation.{WrittenPremiss, WrittenEquation, WrittenGroup, WrittenEquations}
use Rattle.syntax_trees.specs.WrittenItem.{WrittenOperation, WrittenPair, WrittenPairs, WrittenSections, WrittenTypeBody, WrittenItem}
use Rattle.syntax_trees.specs.WrittenBehaviour.{WrittenGateChoice, WrittenExitValue, WrittenOffer, WrittenBehaviour}
use Rattle.syntax_trees.specs.WrittenDefinition.{WrittenHeading, WrittenInner, WrittenSpecification}
use Rattle.syntax_trees.specs.Strength.{PlacedSign}
use Rattle.lotos_rows.specs.Names.{NamedOperation, PlacedProfile}
use Rattle.tree_building.specs.Meaning.{PlainStartedTerm, PlainConclusion, PlainAfterTerm, PlainAfterBase, PlainFlat, PlainActionEnd, PlainCallEnd, PlainValueChoiceEnd, PlainGateChoiceEnd, Meaning, a_name, some_names, some_variables, an_operation, some_named_operations, a_profile, maybe_profile, maybe_name, a_term, some_factors, some_terms, some_groups, some_equations, an_equation, a_conclusion, maybe_conclusion, after_term, a_premiss, maybe_term, some_pairs, both_pairs, an_item, some_items, a_body, after_base, some_sections, declared_operations, an_equation_section, some_operands, an_action, a_call, some_offers, some_exit_values, some_lets, some_gate_choices, a_value_choice, a_gate_choice, a_behaviour, a_sign, a_heading, a_functionality, some_inner, a_process, a_word, a_specification, some_order_items}

-- the first of the parts, where `found` says what it is, and those behind it
abbrev pub next_in : {A : Type 0} → (Meaning → Option A) → List Meaning → Option (A × List Meaning)
next_in found [] = None
next_in found (part ∷ parts) = option_map (λ value. (value, parts)) (found part)

-- what comes of the first part and those behind it
abbrev pub with_next : {A B : Type 0} → (Meaning → Option A) → List Meaning → (A → List Meaning → Option B) → Option B
with_next found parts next = option_and_then (λ pair. next pair.0 pair.1) (next_in found parts)

abbrev pub meant_name : Meaning → Option PlacedName
meant_name (a_name value) = Some value
meant_name _ = None

abbrev pub meant_names : Meaning → Option (List PlacedName)
meant_names (some_names value) = Some value
meant_names _ = None

abbrev pub meant_variables : Meaning → Option (List WrittenVariable)
meant_variables (some_variables value) = Some value
meant_variables _ = None

abbrev pub meant_operation : Meaning → Option NamedOperation
meant_operation (an_operation value) = Some value
meant_operation _ = None

abbrev pub meant_operations : Meaning → Option (List NamedOperation)
meant_operations (some_named_operations value) = Some value
meant_operations _ = None

abbrev pub meant_profile : Meaning → Option PlacedProfile
meant_profile (a_profile value) = Some value
meant_profile _ = None

abbrev pub meant_maybe_profile : Meaning → Option (Option PlacedProfile)
meant_maybe_profile (maybe_profile value) = Some value
meant_maybe_profile _ = None

abbrev pub meant_maybe_name : Meaning → Option (Option PlacedName)
meant_maybe_name (maybe_name value) = Some value
meant_maybe_name _ = None

abbrev pub meant_term : Meaning → Option PlainStartedTerm
meant_term (a_term value) = Some value
meant_term _ = None

abbrev pub meant_factors : Meaning → Option (List (PlacedName × WrittenTerm))
meant_factors (some_factors value) = Some value
meant_factors _ = None

abbrev pub meant_terms : Meaning → Option (List WrittenTerm)
meant_terms (some_terms value) = Some value
meant_terms _ = None

abbrev pub meant_groups : Meaning → Option (List WrittenGroup)
meant_groups (some_groups value) = Some value
meant_groups _ = None

abbrev pub meant_equations : Meaning → Option (List WrittenEquation)
meant_equations (some_equations value) = Some value
meant_equations _ = None

abbrev pub meant_equation : Meaning → Option WrittenEquation
meant_equation (an_equation value) = Some value
meant_equation _ = None

abbrev pub meant_conclusion : Meaning → Option PlainConclusion
meant_conclusion (a_conclusion value) = Some value
meant_conclusion _ = None

abbrev pub meant_maybe_conclusion : Meaning → Option (Option PlainConclusion)
meant_maybe_conclusion (maybe_conclusion value) = Some value
meant_maybe_conclusion _ = None

abbrev pub meant_after_term : Meaning → Option PlainAfterTerm
meant_after_term (after_term value) = Some value
meant_after_term _ = None

abbrev pub meant_premiss : Meaning → Option WrittenPremiss
meant_premiss (a_premiss value) = Some value
meant_premiss _ = None

abbrev pub meant_maybe_term : Meaning → Option (Option WrittenTerm)
meant_maybe_term (maybe_term value) = Some value
meant_maybe_term _ = None

abbrev pub meant_pairs : Meaning → Option (List WrittenPair)
meant_pairs (some_pairs value) = Some value
meant_pairs _ = None

abbrev pub meant_both_pairs : Meaning → Option WrittenPairs
meant_both_pairs (both_pairs value) = Some value
meant_both_pairs _ = None

abbrev pub meant_item : Meaning → Option WrittenItem
meant_item (an_item value) = Some value
meant_item _ = None

abbrev pub meant_items : Meaning → Option (List WrittenItem)
meant_items (some_items value) = Some value
meant_items _ = None

abbrev pub meant_body : Meaning → Option WrittenTypeBody
meant_body (a_body value) = Some value
meant_body _ = None

abbrev pub meant_after_base : Meaning → Option PlainAfterBase
meant_after_base (after_base value) = Some value
meant_after_base _ = None

abbrev pub meant_sections : Meaning → Option WrittenSections
meant_sections (some_sections value) = Some value
meant_sections _ = None

abbrev pub meant_declared_operations : Meaning → Option (List WrittenOperation)
meant_declared_operations (declared_operations value) = Some value
meant_declared_operations _ = None

abbrev pub meant_equation_section : Meaning → Option WrittenEquations
meant_equation_section (an_equation_section value) = Some value
meant_equation_section _ = None

abbrev pub meant_operands : Meaning → Option PlainFlat
meant_operands (some_operands value) = Some value
meant_operands _ = None

abbrev pub meant_action : Meaning → Option PlainActionEnd
meant_action (an_action value) = Some value
meant_action _ = None

abbrev pub meant_call : Meaning → Option PlainCallEnd
meant_call (a_call value) = Some value
meant_call _ = None

abbrev pub meant_offers : Meaning → Option (List WrittenOffer)
meant_offers (some_offers value) = Some value
meant_offers _ = None

abbrev pub meant_exit_values : Meaning → Option (List WrittenExitValue)
meant_exit_values (some_exit_values value) = Some value
meant_exit_values _ = None

abbrev pub meant_lets : Meaning → Option (List (WrittenVariable × WrittenTerm))
meant_lets (some_lets value) = Some value
meant_lets _ = None

abbrev pub meant_gate_choices : Meaning → Option (List WrittenGateChoice)
meant_gate_choices (some_gate_choices value) = Some value
meant_gate_choices _ = None

abbrev pub meant_value_choice : Meaning → Option PlainValueChoiceEnd
meant_value_choice (a_value_choice value) = Some value
meant_value_choice _ = None

abbrev pub meant_gate_choice : Meaning → Option PlainGateChoiceEnd
meant_gate_choice (a_gate_choice value) = Some value
meant_gate_choice _ = None

abbrev pub meant_behaviour : Meaning → Option WrittenBehaviour
meant_behaviour (a_behaviour value) = Some value
meant_behaviour _ = None

abbrev pub meant_sign : Meaning → Option PlacedSign
meant_sign (a_sign value) = Some value
meant_sign _ = None

abbrev pub meant_heading : Meaning → Option WrittenHeading
meant_heading (a_heading value) = Some value
meant_heading _ = None

abbrev pub meant_functionality : Meaning → Option (Option (List PlacedName))
meant_functionality (a_functionality value) = Some value
meant_functionality _ = None

abbrev pub meant_inner : Meaning → Option (List WrittenInner)
meant_inner (some_inner value) = Some value
meant_inner _ = None

abbrev pub meant_process : Meaning → Option WrittenInner
meant_process (a_process value) = Some value
meant_process _ = None

abbrev pub meant_word : Meaning → Option (Unit {0})
meant_word (a_word value) = Some value
meant_word _ = None

abbrev pub meant_specification : Meaning → Option WrittenSpecification
meant_specification (a_specification value) = Some value
meant_specification _ = None

abbrev pub meant_order_items : Meaning → Option (List ListedOperation)
meant_order_items (some_order_items value) = Some value
meant_order_items _ = None
