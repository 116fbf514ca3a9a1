-- What each row of the grammar means, from its first token, where that is kept, and from what its parts mean. The text is
-- there for the spelling of names.
use Rattle.std.specs.Prelude.{ℕ, List, Option, option_and_then, slice_get}
use Rattle.lotos_rows.specs.HandedOn.{Token}
use Rattle.lotos_rows.specs.declared.row_names.RowName.{RowName}
use Rattle.lotos_rows.specs.declared.row_names.RowName.TheVariants as of_subject
use Rattle.lotos_rows.specs.declared.names.NamesRow.{NamesRow}
use Rattle.lotos_rows.specs.declared.names.NamesRow.TheVariants as name_row
use Rattle.lotos_rows.specs.declared.terms.TermsRow.{TermsRow}
use Rattle.lotos_rows.specs.declared.terms.TermsRow.TheVariants as term_row
use Rattle.lotos_rows.specs.declared.types.TypesRow.{TypesRow}
use Rattle.lotos_rows.specs.declared.types.TypesRow.TheVariants as type_row
use Rattle.lotos_rows.specs.declared.equations.EquationsRow.{EquationsRow}
use Rattle.lotos_rows.specs.declared.equations.EquationsRow.TheVariants as equation_row
use Rattle.lotos_rows.specs.declared.renamings.RenamingsRow.{RenamingsRow}
use Rattle.lotos_rows.specs.declared.renamings.RenamingsRow.TheVariants as renaming_row
use Rattle.lotos_rows.specs.declared.behaviours.BehavioursRow.{BehavioursRow}
use Rattle.lotos_rows.specs.declared.behaviours.BehavioursRow.TheVariants as behaviour_row
use Rattle.lotos_rows.specs.declared.definitions.DefinitionsRow.{DefinitionsRow}
use Rattle.lotos_rows.specs.declared.definitions.DefinitionsRow.TheVariants as definition_row
use Rattle.lotos_rows.specs.declared.specification.SpecificationRow.{SpecificationRow}
use Rattle.lotos_rows.specs.declared.specification.SpecificationRow.TheVariants as specification_row
use Rattle.lotos_rows.specs.declared.starts.StartsRow.{StartsRow}
use Rattle.lotos_rows.specs.declared.starts.StartsRow.TheVariants as start_row
use Rattle.lotos_rows.specs.Rows.{row_names}
use Rattle.syntax_trees.specs.WrittenBehaviour.{choice_sign, interleaving, full_synchronisation, disabling}
use Rattle.tree_building.specs.Meaning.{Meaning}
use Rattle.tree_building.specs.NamesMeaning.{token_named, same_name, no_names, same_names, name_alone, name_before_names, no_variables, same_variables, variables_before_variables, prefix_operation, infix_operation, profile_of_names}
use Rattle.tree_building.specs.TermsMeaning.{term_of_factors, no_factors, factor_before_factors, applied_factor, bracketed_factor, no_terms, same_terms, term_before_terms}
use Rattle.tree_building.specs.EquationsMeaning.{no_groups, group_before_groups, no_equations_listed, same_equations, equation_before_equations, equation_of_term, equals_after_term, conclusion_after_term, no_conclusion, some_conclusion, premiss_before_conclusion, conclusion_of_terms, premiss_of_term, no_right_side, some_right_side}
use Rattle.tree_building.specs.RenamingsMeaning.{pairs_of_both, no_pairs, same_pairs, sort_pair_before_pairs, operation_pair_before_pairs}
use Rattle.tree_building.specs.TypesMeaning.{library_item, type_item, named_body, sections_body, renaming_after_base, actualisation_after_base, extension_after_base, sections_of_parts, no_operations_declared, same_operations_declared, line_before_lines, no_more_operations, operation_before_operations, no_equation_section, equation_section, no_items, same_items, item_before_items}
use Rattle.tree_building.specs.BehavioursMeaning.{hidden, let_in, choice_after_word, par_after_word, inner_prefixed, guarded, name_first, stopped, exited, bracketed_behaviour, no_tail, sign_before_behaviour, action_without_offers, offers_before_action, action_with_selection, call_without_name, offer_of_value, offers_of_variables, no_exit_values, same_exit_values, any_before_exit_values, term_before_exit_values, let_before_lets, no_lets, same_lets, value_choice_end, gate_choice_end, chosen, gates_before_gate_choices, no_gate_choices, same_gate_choices, sign_of_token, same_sign, enabling_sign, gates_sign}
use Rattle.tree_building.specs.DefinitionsMeaning.{heading_of_parts, no_exit, exit_of_sorts, nothing_inner, same_inner, item_before_inner, process_before_inner, process_of_parts}
use Rattle.tree_building.specs.StartsMeaning.{a_behaviour_word, specification_of_parts, no_order_items, item_before_order, no_profile, some_profile, no_status, some_status}

-- rows of names and lists of them
abbrev pub names_row_means : List ℕ → NamesRow → Option Token → List Meaning → Option Meaning
names_row_means text name_row.Name token parts = token_named text token
names_row_means text name_row.Names token parts = name_before_names parts
names_row_means text name_row.NoMoreNames token parts = no_names
names_row_means text name_row.MoreNames token parts = same_names parts
names_row_means text name_row.NoOptionalNames token parts = no_names
names_row_means text name_row.OptionalNames token parts = same_names parts
names_row_means text name_row.Gates token parts = same_names parts
names_row_means text name_row.NoOptionalGates token parts = no_names
names_row_means text name_row.OptionalGates token parts = same_names parts
names_row_means text name_row.LooseNames token parts = name_before_names parts
names_row_means text name_row.NoMoreLooseNames token parts = no_names
names_row_means text name_row.MoreLooseNamesAfterComma token parts = same_names parts
names_row_means text name_row.MoreLooseNames token parts = same_names parts
names_row_means text name_row.Variables token parts = variables_before_variables parts
names_row_means text name_row.NoMoreVariables token parts = no_variables
names_row_means text name_row.MoreVariables token parts = same_variables parts
names_row_means text name_row.NameOfOperation token parts = same_name parts
names_row_means text name_row.DigitName token parts = token_named text token
names_row_means text name_row.SignName token parts = token_named text token
names_row_means text name_row.PrefixOperation token parts = prefix_operation parts
names_row_means text name_row.InfixOperation token parts = infix_operation parts
names_row_means text name_row.Profile token parts = profile_of_names parts

-- rows of terms
abbrev pub terms_row_means : TermsRow → Option Token → List Meaning → Option Meaning
terms_row_means term_row.Term token parts = term_of_factors parts
terms_row_means term_row.NoMoreFactors token parts = no_factors
terms_row_means term_row.MoreFactors token parts = factor_before_factors parts
terms_row_means term_row.AppliedFactor token parts = applied_factor parts
terms_row_means term_row.BracketedFactor token parts = bracketed_factor token parts
terms_row_means term_row.NoArguments token parts = no_terms
terms_row_means term_row.Arguments token parts = same_terms parts
terms_row_means term_row.NoSortMark token parts = no_names
terms_row_means term_row.SortMark token parts = name_alone parts
terms_row_means term_row.TermList token parts = term_before_terms parts
terms_row_means term_row.NoMoreTerms token parts = no_terms
terms_row_means term_row.MoreTerms token parts = same_terms parts

-- rows of types
abbrev pub types_row_means : TypesRow → Option Token → List Meaning → Option Meaning
types_row_means type_row.LibraryItem token parts = library_item token parts
types_row_means type_row.TypeItem token parts = type_item parts
types_row_means type_row.NamedBody token parts = named_body parts
types_row_means type_row.SectionsBody token parts = sections_body parts
types_row_means type_row.Renaming token parts = renaming_after_base parts
types_row_means type_row.Actualisation token parts = actualisation_after_base parts
types_row_means type_row.Extension token parts = extension_after_base parts
types_row_means type_row.Sections token parts = sections_of_parts parts
types_row_means type_row.NoFormalSorts token parts = no_names
types_row_means type_row.FormalSorts token parts = same_names parts
types_row_means type_row.NoFormalOperations token parts = no_operations_declared
types_row_means type_row.FormalOperations token parts = same_operations_declared parts
types_row_means type_row.NoFormalEquations token parts = no_equation_section
types_row_means type_row.FormalEquations token parts = equation_section parts
types_row_means type_row.NoSorts token parts = no_names
types_row_means type_row.Sorts token parts = same_names parts
types_row_means type_row.NoOperations token parts = no_operations_declared
types_row_means type_row.Operations token parts = same_operations_declared parts
types_row_means type_row.NoEquations token parts = no_equation_section
types_row_means type_row.Equations token parts = equation_section parts
types_row_means type_row.NoOperationLines token parts = no_operations_declared
types_row_means type_row.OperationLines token parts = line_before_lines parts
types_row_means type_row.NoMoreOperations token parts = no_more_operations
types_row_means type_row.MoreOperations token parts = operation_before_operations parts

-- rows of equations
abbrev pub equations_row_means : EquationsRow → Option Token → List Meaning → Option Meaning
equations_row_means equation_row.NoVariablesForAll token parts = no_variables
equations_row_means equation_row.VariablesForAll token parts = same_variables parts
equations_row_means equation_row.NoEquationGroups token parts = no_groups
equations_row_means equation_row.EquationGroups token parts = group_before_groups parts
equations_row_means equation_row.NoEquationList token parts = no_equations_listed
equations_row_means equation_row.EquationList token parts = equation_before_equations parts
equations_row_means equation_row.NoAfterEquation token parts = no_equations_listed
equations_row_means equation_row.AfterEquation token parts = same_equations parts
equations_row_means equation_row.Equation token parts = equation_of_term parts
equations_row_means equation_row.EqualsAfterTerm token parts = equals_after_term parts
equations_row_means equation_row.ConclusionAfterTerm token parts = conclusion_after_term parts
equations_row_means equation_row.NoAfterFirstPair token parts = no_conclusion
equations_row_means equation_row.AfterFirstPair token parts = some_conclusion parts
equations_row_means equation_row.PremissAndConclusion token parts = premiss_before_conclusion parts
equations_row_means equation_row.Conclusion token parts = conclusion_of_terms token parts
equations_row_means equation_row.Premiss token parts = premiss_of_term parts
equations_row_means equation_row.NoPremissRight token parts = no_right_side
equations_row_means equation_row.PremissRight token parts = some_right_side parts

-- rows of renamings
abbrev pub renamings_row_means : RenamingsRow → Option Token → List Meaning → Option Meaning
renamings_row_means renaming_row.Renames token parts = pairs_of_both parts
renamings_row_means renaming_row.NoSortRenames token parts = no_pairs
renamings_row_means renaming_row.SortRenames token parts = same_pairs parts
renamings_row_means renaming_row.SortPairs token parts = sort_pair_before_pairs parts
renamings_row_means renaming_row.NoMoreSortPairs token parts = no_pairs
renamings_row_means renaming_row.MoreSortPairsAfterComma token parts = same_pairs parts
renamings_row_means renaming_row.MoreSortPairs token parts = same_pairs parts
renamings_row_means renaming_row.NoOperationRenames token parts = no_pairs
renamings_row_means renaming_row.OperationRenames token parts = same_pairs parts
renamings_row_means renaming_row.OperationPairs token parts = operation_pair_before_pairs parts
renamings_row_means renaming_row.NoMoreOperationPairs token parts = no_pairs
renamings_row_means renaming_row.MoreOperationPairsAfterComma token parts = same_pairs parts
renamings_row_means renaming_row.MoreOperationPairs token parts = same_pairs parts

-- rows of behaviours
abbrev pub behaviours_row_means : BehavioursRow → Option Token → List Meaning → Option Meaning
behaviours_row_means behaviour_row.Hide token parts = hidden token parts
behaviours_row_means behaviour_row.Let token parts = let_in token parts
behaviours_row_means behaviour_row.Choice token parts = choice_after_word token parts
behaviours_row_means behaviour_row.Par token parts = par_after_word token parts
behaviours_row_means behaviour_row.Internal token parts = inner_prefixed token parts
behaviours_row_means behaviour_row.Guarded token parts = guarded token parts
behaviours_row_means behaviour_row.NameFirst token parts = name_first parts
behaviours_row_means behaviour_row.Stop token parts = stopped token parts
behaviours_row_means behaviour_row.Exit token parts = exited token parts
behaviours_row_means behaviour_row.BracketedBehaviour token parts = bracketed_behaviour parts
behaviours_row_means behaviour_row.NoBehaviourTail token parts = no_tail
behaviours_row_means behaviour_row.BehaviourTail token parts = sign_before_behaviour parts
behaviours_row_means behaviour_row.ActionWithoutOffers token parts = action_without_offers parts
behaviours_row_means behaviour_row.ActionWithOffers token parts = offers_before_action parts
behaviours_row_means behaviour_row.Call token parts = call_without_name parts
behaviours_row_means behaviour_row.Give token parts = offer_of_value parts
behaviours_row_means behaviour_row.Ask token parts = offers_of_variables parts
behaviours_row_means behaviour_row.OneMoreOffer token parts = offers_before_action parts
behaviours_row_means behaviour_row.SelectionAfterOffers token parts = action_with_selection parts
behaviours_row_means behaviour_row.PrefixAfterOffers token parts = action_without_offers parts
behaviours_row_means behaviour_row.NoExitValues token parts = no_exit_values
behaviours_row_means behaviour_row.ExitValues token parts = same_exit_values parts
behaviours_row_means behaviour_row.AnyExitValue token parts = any_before_exit_values parts
behaviours_row_means behaviour_row.GivenExitValue token parts = term_before_exit_values parts
behaviours_row_means behaviour_row.NoMoreExitValues token parts = no_exit_values
behaviours_row_means behaviour_row.MoreExitValues token parts = same_exit_values parts
behaviours_row_means behaviour_row.LetList token parts = let_before_lets parts
behaviours_row_means behaviour_row.NoMoreLets token parts = no_lets
behaviours_row_means behaviour_row.MoreLets token parts = same_lets parts
behaviours_row_means behaviour_row.ChoiceOfValues token parts = value_choice_end parts
behaviours_row_means behaviour_row.ChoiceOfGates token parts = gate_choice_end parts
behaviours_row_means behaviour_row.Chosen token parts = chosen parts
behaviours_row_means behaviour_row.GateChoices token parts = gates_before_gate_choices parts
behaviours_row_means behaviour_row.NoMoreGateChoices token parts = no_gate_choices
behaviours_row_means behaviour_row.MoreGateChoices token parts = same_gate_choices parts
behaviours_row_means behaviour_row.ChoiceSign token parts = sign_of_token choice_sign token
behaviours_row_means behaviour_row.ParallelSign token parts = same_sign parts
behaviours_row_means behaviour_row.DisablingSign token parts = sign_of_token disabling token
behaviours_row_means behaviour_row.EnablingSign token parts = enabling_sign token parts
behaviours_row_means behaviour_row.Interleaving token parts = sign_of_token interleaving token
behaviours_row_means behaviour_row.FullSynchronisation token parts = sign_of_token full_synchronisation token
behaviours_row_means behaviour_row.GateSynchronisation token parts = gates_sign token parts
behaviours_row_means behaviour_row.NoAccept token parts = no_variables
behaviours_row_means behaviour_row.Accept token parts = same_variables parts

-- rows of processes and headings
abbrev pub definitions_row_means : DefinitionsRow → Option Token → List Meaning → Option Meaning
definitions_row_means definition_row.Heading token parts = heading_of_parts parts
definitions_row_means definition_row.NoParameters token parts = no_variables
definitions_row_means definition_row.Parameters token parts = same_variables parts
definitions_row_means definition_row.NoExit token parts = no_exit
definitions_row_means definition_row.ExitFunctionality token parts = exit_of_sorts parts
definitions_row_means definition_row.NoExitSorts token parts = no_names
definitions_row_means definition_row.ExitSorts token parts = same_names parts
definitions_row_means definition_row.NoWhere token parts = nothing_inner
definitions_row_means definition_row.Where token parts = same_inner parts
definitions_row_means definition_row.NothingInner token parts = nothing_inner
definitions_row_means definition_row.InnerItem token parts = item_before_inner parts
definitions_row_means definition_row.InnerProcess token parts = process_before_inner parts
definitions_row_means definition_row.Process token parts = process_of_parts parts

-- rows of a specification's items and of its word
abbrev pub specification_row_means : SpecificationRow → Option Token → List Meaning → Option Meaning
specification_row_means specification_row.NoItems token parts = no_items
specification_row_means specification_row.Items token parts = item_before_items parts
specification_row_means specification_row.BehaviourWord token parts = a_behaviour_word
specification_row_means specification_row.BehaviorWord token parts = a_behaviour_word

-- rows of the four texts
abbrev pub starts_row_means : StartsRow → Option Token → List Meaning → Option Meaning
starts_row_means start_row.Spec token parts = specification_of_parts parts
starts_row_means start_row.Typetext token parts = same_items parts
starts_row_means start_row.NoOrder token parts = no_order_items
starts_row_means start_row.Order token parts = item_before_order parts
starts_row_means start_row.NoOptionalProfile token parts = no_profile
starts_row_means start_row.OptionalProfile token parts = some_profile parts
starts_row_means start_row.NoTerms token parts = no_terms
starts_row_means start_row.Terms token parts = same_terms parts
starts_row_means start_row.NoOptionalStatus token parts = no_status
starts_row_means start_row.OptionalStatus token parts = some_status parts

-- a row by its name
abbrev pub row_means : List ℕ → RowName → Option Token → List Meaning → Option Meaning
row_means text (of_subject.Names row) token parts = names_row_means text row token parts
row_means text (of_subject.Terms row) token parts = terms_row_means row token parts
row_means text (of_subject.Types row) token parts = types_row_means row token parts
row_means text (of_subject.Equations row) token parts = equations_row_means row token parts
row_means text (of_subject.Renamings row) token parts = renamings_row_means row token parts
row_means text (of_subject.Behaviours row) token parts = behaviours_row_means row token parts
row_means text (of_subject.Definitions row) token parts = definitions_row_means row token parts
row_means text (of_subject.Specification row) token parts = specification_row_means row token parts
row_means text (of_subject.Starts row) token parts = starts_row_means row token parts

-- a row by its number
abbrev pub numbered_row_means : List ℕ → ℕ → Option Token → List Meaning → Option Meaning
numbered_row_means text number token parts = option_and_then (λ row. row_means text row token parts) (slice_get row_names number)
