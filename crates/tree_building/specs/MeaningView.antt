-- What the code's values mean.
use Rattle.std.specs.Prelude.{option_map}
use Rattle.lotos_base.specs.WrittenView.{placed_name_of, written_term_of, listed_operation_of}
use Rattle.syntax_trees.specs.TreeViews.{written_variable_of, group_of, written_equation_of, premiss_of, pair_of, item_of, written_operation_of, equations_of, written_offer_of, written_exit_value_of, gate_choice_of, written_behaviour_of, inner_of, written_process_of, written_specification_of, placed_sign_of}
use Rattle.tree_building.specs.declared.value.Value.{Value}
use Rattle.tree_building.specs.declared.value.Value.TheVariants as value
use Rattle.lotos_rows.specs.HandedOn.{from_last}
use Rattle.tree_building.specs.Meaning.{Meaning, a_name, some_names, some_variables, an_operation, some_named_operations, a_profile, maybe_profile, maybe_name, a_term, some_factors, some_terms, some_groups, some_equations, an_equation, a_conclusion, maybe_conclusion, after_term, a_premiss, maybe_term, some_pairs, both_pairs, an_item, some_items, a_body, after_base, some_sections, declared_operations, an_equation_section, some_operands, an_action, a_call, some_offers, some_exit_values, some_lets, some_gate_choices, a_value_choice, a_gate_choice, a_behaviour, a_sign, a_heading, a_functionality, some_inner, a_process, a_word, a_specification, some_order_items}
use Rattle.tree_building.specs.NamesViews.{named_operation_of, profile_of}
use Rattle.tree_building.specs.TermsViews.{started_term_of, factor_of}
use Rattle.tree_building.specs.EquationsViews.{conclusion_of, after_term_of}
use Rattle.tree_building.specs.RenamingsViews.{both_pairs_of}
use Rattle.tree_building.specs.TypesViews.{written_type_body_of, after_base_of, written_sections_of}
use Rattle.tree_building.specs.BehavioursViews.{flat_of, action_end_of, call_end_of, written_let_of, value_choice_end_of, gate_choice_end_of}
use Rattle.tree_building.specs.DefinitionsViews.{written_exit_sorts_of, plain_heading_of}

abbrev pub meaning : Value → Meaning
meaning (value.Name x) = a_name (placed_name_of x)
meaning (value.Names x) = some_names (from_last placed_name_of x.items)
meaning (value.Variables x) = some_variables (from_last written_variable_of x.items)
meaning (value.Operation x) = an_operation (named_operation_of x)
meaning (value.NamedOperations x) = some_named_operations (from_last named_operation_of x.items)
meaning (value.Profile x) = a_profile (profile_of x)
meaning (value.MaybeProfile x) = maybe_profile (option_map profile_of x)
meaning (value.MaybeName x) = maybe_name (option_map placed_name_of x)
meaning (value.Term x) = a_term (started_term_of x)
meaning (value.Factors x) = some_factors (from_last factor_of x.items)
meaning (value.Terms x) = some_terms (from_last written_term_of x.items)
meaning (value.Groups x) = some_groups (from_last group_of x.items)
meaning (value.Equations x) = some_equations (from_last written_equation_of x.items)
meaning (value.Equation x) = an_equation (written_equation_of x.value)
meaning (value.Conclusion x) = a_conclusion (conclusion_of x)
meaning (value.MaybeConclusion x) = maybe_conclusion (option_map conclusion_of x)
meaning (value.AfterTerm x) = after_term (after_term_of x.value)
meaning (value.Premiss x) = a_premiss (premiss_of x.value)
meaning (value.MaybeTerm x) = maybe_term (option_map written_term_of x)
meaning (value.Pairs x) = some_pairs (from_last pair_of x.items)
meaning (value.BothPairs x) = both_pairs (both_pairs_of x)
meaning (value.Item x) = an_item (item_of x.value)
meaning (value.Items x) = some_items (from_last item_of x.items)
meaning (value.Body x) = a_body (written_type_body_of x)
meaning (value.AfterBase x) = after_base (after_base_of x)
meaning (value.Sections x) = some_sections (written_sections_of x.value)
meaning (value.DeclaredOperations x) = declared_operations (from_last written_operation_of x.items)
meaning (value.EquationSection x) = an_equation_section (equations_of x)
meaning (value.Operands x) = some_operands (flat_of x)
meaning (value.Action x) = an_action (action_end_of x.value)
meaning (value.Call x) = a_call (call_end_of x)
meaning (value.Offers x) = some_offers (from_last written_offer_of x.items)
meaning (value.ExitValues x) = some_exit_values (from_last written_exit_value_of x.items)
meaning (value.Lets x) = some_lets (from_last written_let_of x.items)
meaning (value.GateChoices x) = some_gate_choices (from_last gate_choice_of x.items)
meaning (value.ValueChoice x) = a_value_choice (value_choice_end_of x)
meaning (value.GateChoice x) = a_gate_choice (gate_choice_end_of x)
meaning (value.Behaviour x) = a_behaviour (written_behaviour_of x.value)
meaning (value.Sign x) = a_sign (placed_sign_of x)
meaning (value.Heading x) = a_heading (plain_heading_of x)
meaning (value.Functionality x) = a_functionality (option_map written_exit_sorts_of x)
meaning (value.Inner x) = some_inner (from_last inner_of x.items)
meaning (value.Process x) = a_process (written_process_of x.value)
meaning (value.Word x) = a_word (tt)
meaning (value.Specification x) = a_specification (written_specification_of x.value)
meaning (value.OrderItems x) = some_order_items (from_last listed_operation_of x.items)
