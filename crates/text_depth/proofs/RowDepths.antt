-- Each row keeps of its part what is kept of what it means.
use Rattle.std.proofs.Common.{◌≡◌, ℕ, List, map, length, Some}
use Rattle.std.specs.Prelude.{Option}
use Rattle.lotos_lexer.specs.declared.tokens.Token.{Token}
use Rattle.lotos_rows.specs.declared.row_names.RowName.{RowName}
use Rattle.lotos_rows.specs.declared.row_names.RowName.TheVariants as of_subject
use Rattle.lotos_rows.specs.declared.names.NamesRow.{NamesRow}
use Rattle.lotos_rows.specs.declared.names.NamesRow.TheVariants as name_row
use Rattle.lotos_rows.specs.declared.terms.TermsRow.{TermsRow}
use Rattle.lotos_rows.specs.declared.terms.TermsRow.TheVariants as term_row
use Rattle.lotos_rows.specs.declared.types.TypesRow.{TypesRow}
use Rattle.lotos_rows.specs.declared.types.TypesRow.TheVariants as type_row
use Rattle.lotos_rows.specs.declared.equations.EquationsRow.{EquationsRow}
use Rattle.lotos_rows.specs.declared.equations.EquationsRow.TheVariants as equation_row
use Rattle.lotos_rows.specs.declared.renamings.RenamingsRow.{RenamingsRow}
use Rattle.lotos_rows.specs.declared.renamings.RenamingsRow.TheVariants as renaming_row
use Rattle.lotos_rows.specs.declared.behaviours.BehavioursRow.{BehavioursRow}
use Rattle.lotos_rows.specs.declared.behaviours.BehavioursRow.TheVariants as behaviour_row
use Rattle.lotos_rows.specs.declared.definitions.DefinitionsRow.{DefinitionsRow}
use Rattle.lotos_rows.specs.declared.definitions.DefinitionsRow.TheVariants as definition_row
use Rattle.lotos_rows.specs.declared.specification.SpecificationRow.{SpecificationRow}
use Rattle.lotos_rows.specs.declared.specification.SpecificationRow.TheVariants as specification_row
use Rattle.lotos_rows.specs.declared.starts.StartsRow.{StartsRow}
use Rattle.lotos_rows.specs.declared.starts.StartsRow.TheVariants as start_row
use Rattle.syntax_trees.specs.WrittenBehaviour.{choice_sign, interleaving, full_synchronisation, disabling}
use Rattle.tree_building.specs.Meaning.{Meaning}
use Rattle.tree_building.specs.RowMeaning.{names_row_means, terms_row_means, types_row_means, equations_row_means, renamings_row_means, behaviours_row_means, definitions_row_means, specification_row_means, starts_row_means, row_means}
use Rattle.text_depth.specs.DepthPart.{depth_of}
use Rattle.text_depth.specs.RowDepth.{closing_parts, names_row_depth, terms_row_depth, types_row_depth, equations_row_depth, behaviours_row_depth, definitions_row_depth, starts_row_depth, row_depth}
use Rattle.text_depth.proofs.NamesDepths.{infix_operation_is, name_alone_is, name_before_names_is, no_names_is, no_variables_is, prefix_operation_is, profile_of_names_is, same_name_is, same_names_is, same_variables_is, token_named_is, variables_before_variables_is}
use Rattle.text_depth.proofs.DefinitionsDepths.{exit_of_sorts_is, heading_of_parts_is, item_before_inner_is, no_exit_is, nothing_inner_is, process_before_inner_is, process_of_parts_is, same_inner_is}
use Rattle.text_depth.proofs.TypesDepths.{actualisation_after_base_is, equation_section_is, extension_after_base_is, item_before_items_is, library_item_is, line_before_lines_is, named_body_is, no_equation_section_is, no_items_is, no_more_operations_is, no_operations_declared_is, operation_before_operations_is, renaming_after_base_is, same_items_is, same_operations_declared_is, sections_body_is, sections_of_parts_is, type_item_is}
use Rattle.text_depth.proofs.BehavioursDepths.{action_with_selection_is, action_without_offers_is, any_before_exit_values_is, bracketed_behaviour_is, call_without_name_is, choice_after_word_is, chosen_is, enabling_sign_is, exited_is, gate_choice_end_is, gates_before_gate_choices_is, gates_sign_is, guarded_is, hidden_is, inner_prefixed_is, let_before_lets_is, let_in_is, name_first_is, no_exit_values_is, no_gate_choices_is, no_lets_is, no_tail_is, offer_of_value_is, offers_before_action_is, offers_of_variables_is, par_after_word_is, same_exit_values_is, same_gate_choices_is, same_lets_is, same_sign_is, sign_before_behaviour_is, sign_of_token_is, stopped_is, term_before_exit_values_is, value_choice_end_is}
use Rattle.text_depth.proofs.TermsDepths.{applied_factor_is, bracketed_factor_is, factor_before_factors_is, no_factors_is, no_terms_is, same_terms_is, term_before_terms_is, term_of_factors_is}
use Rattle.text_depth.proofs.EquationsDepths.{conclusion_after_term_is, conclusion_of_terms_is, equals_after_term_is, equation_before_equations_is, equation_of_term_is, group_before_groups_is, no_conclusion_is, no_equations_listed_is, no_groups_is, no_right_side_is, premiss_before_conclusion_is, premiss_of_term_is, same_equations_is, some_conclusion_is, some_right_side_is}
use Rattle.text_depth.proofs.RenamingsDepths.{no_pairs_is, operation_pair_before_pairs_is, pairs_of_both_is, same_pairs_is, sort_pair_before_pairs_is}
use Rattle.text_depth.proofs.StartsDepths.{a_behaviour_word_is, item_before_order_is, no_order_items_is, no_profile_is, some_profile_is, no_status_is, some_status_is, specification_of_parts_is}

abbrev pub names_arity : NamesRow → ℕ
names_arity name_row.Name = 0
names_arity name_row.Names = 2
names_arity name_row.NoMoreNames = 0
names_arity name_row.MoreNames = 1
names_arity name_row.NoOptionalNames = 0
names_arity name_row.OptionalNames = 1
names_arity name_row.Gates = 1
names_arity name_row.NoOptionalGates = 0
names_arity name_row.OptionalGates = 1
names_arity name_row.LooseNames = 2
names_arity name_row.NoMoreLooseNames = 0
names_arity name_row.MoreLooseNamesAfterComma = 1
names_arity name_row.MoreLooseNames = 1
names_arity name_row.Variables = 3
names_arity name_row.NoMoreVariables = 0
names_arity name_row.MoreVariables = 1
names_arity name_row.NameOfOperation = 1
names_arity name_row.DigitName = 0
names_arity name_row.SignName = 0
names_arity name_row.PrefixOperation = 1
names_arity name_row.InfixOperation = 1
names_arity name_row.Profile = 2

names_hold : (limit : ℕ) (text : List ℕ) (row : NamesRow) (token : Option Token) (parts : List Meaning) (m : Meaning)
    → length parts ≡ names_arity row →
    names_row_means text row token parts ≡ Some m → names_row_depth limit row token (map (depth_of limit) parts) ≡ Some (depth_of limit m)
names_hold limit text name_row.Name token parts m n e = token_named_is limit text token m e
names_hold limit text name_row.Names token parts m n e = name_before_names_is limit parts m n e
names_hold limit text name_row.NoMoreNames token parts m n e = no_names_is limit parts m n e
names_hold limit text name_row.MoreNames token parts m n e = same_names_is limit parts m n e
names_hold limit text name_row.NoOptionalNames token parts m n e = no_names_is limit parts m n e
names_hold limit text name_row.OptionalNames token parts m n e = same_names_is limit parts m n e
names_hold limit text name_row.Gates token parts m n e = same_names_is limit parts m n e
names_hold limit text name_row.NoOptionalGates token parts m n e = no_names_is limit parts m n e
names_hold limit text name_row.OptionalGates token parts m n e = same_names_is limit parts m n e
names_hold limit text name_row.LooseNames token parts m n e = name_before_names_is limit parts m n e
names_hold limit text name_row.NoMoreLooseNames token parts m n e = no_names_is limit parts m n e
names_hold limit text name_row.MoreLooseNamesAfterComma token parts m n e = same_names_is limit parts m n e
names_hold limit text name_row.MoreLooseNames token parts m n e = same_names_is limit parts m n e
names_hold limit text name_row.Variables token parts m n e = variables_before_variables_is limit parts m n e
names_hold limit text name_row.NoMoreVariables token parts m n e = no_variables_is limit parts m n e
names_hold limit text name_row.MoreVariables token parts m n e = same_variables_is limit parts m n e
names_hold limit text name_row.NameOfOperation token parts m n e = same_name_is limit parts m n e
names_hold limit text name_row.DigitName token parts m n e = token_named_is limit text token m e
names_hold limit text name_row.SignName token parts m n e = token_named_is limit text token m e
names_hold limit text name_row.PrefixOperation token parts m n e = prefix_operation_is limit parts m n e
names_hold limit text name_row.InfixOperation token parts m n e = infix_operation_is limit parts m n e
names_hold limit text name_row.Profile token parts m n e = profile_of_names_is limit parts m n e

abbrev pub terms_arity : TermsRow → ℕ
terms_arity term_row.Term = 2
terms_arity term_row.NoMoreFactors = 0
terms_arity term_row.MoreFactors = 3
terms_arity term_row.AppliedFactor = 3
terms_arity term_row.BracketedFactor = 2
terms_arity term_row.NoArguments = 0
terms_arity term_row.Arguments = 1
terms_arity term_row.NoSortMark = 0
terms_arity term_row.SortMark = 1
terms_arity term_row.TermList = 2
terms_arity term_row.NoMoreTerms = 0
terms_arity term_row.MoreTerms = 1

terms_hold : (limit : ℕ) (row : TermsRow) (token : Option Token) (parts : List Meaning) (m : Meaning) → length parts ≡ terms_arity row →
    terms_row_means row token parts ≡ Some m → terms_row_depth row token (map (depth_of limit) parts) ≡ Some (depth_of limit m)
terms_hold limit term_row.Term token parts m n e = term_of_factors_is limit parts m n e
terms_hold limit term_row.NoMoreFactors token parts m n e = no_factors_is limit parts m n e
terms_hold limit term_row.MoreFactors token parts m n e = factor_before_factors_is limit parts m n e
terms_hold limit term_row.AppliedFactor token parts m n e = applied_factor_is limit parts m n e
terms_hold limit term_row.BracketedFactor token parts m n e = bracketed_factor_is limit token parts m n e
terms_hold limit term_row.NoArguments token parts m n e = no_terms_is limit parts m n e
terms_hold limit term_row.Arguments token parts m n e = same_terms_is limit parts m n e
terms_hold limit term_row.NoSortMark token parts m n e = no_names_is limit parts m n e
terms_hold limit term_row.SortMark token parts m n e = name_alone_is limit parts m n e
terms_hold limit term_row.TermList token parts m n e = term_before_terms_is limit parts m n e
terms_hold limit term_row.NoMoreTerms token parts m n e = no_terms_is limit parts m n e
terms_hold limit term_row.MoreTerms token parts m n e = same_terms_is limit parts m n e

abbrev pub types_arity : TypesRow → ℕ
types_arity type_row.LibraryItem = 1
types_arity type_row.TypeItem = 2
types_arity type_row.NamedBody = 2
types_arity type_row.SectionsBody = 1
types_arity type_row.Renaming = 1
types_arity type_row.Actualisation = 2
types_arity type_row.Extension = 2
types_arity type_row.Sections = 6
types_arity type_row.NoFormalSorts = 0
types_arity type_row.FormalSorts = 1
types_arity type_row.NoFormalOperations = 0
types_arity type_row.FormalOperations = 1
types_arity type_row.NoFormalEquations = 0
types_arity type_row.FormalEquations = 2
types_arity type_row.NoSorts = 0
types_arity type_row.Sorts = 1
types_arity type_row.NoOperations = 0
types_arity type_row.Operations = 1
types_arity type_row.NoEquations = 0
types_arity type_row.Equations = 2
types_arity type_row.NoOperationLines = 0
types_arity type_row.OperationLines = 4
types_arity type_row.NoMoreOperations = 0
types_arity type_row.MoreOperations = 2

types_hold : (limit : ℕ) (row : TypesRow) (token : Option Token) (parts : List Meaning) (m : Meaning) → length parts ≡ types_arity row →
    types_row_means row token parts ≡ Some m → types_row_depth limit row (map (depth_of limit) parts) ≡ Some (depth_of limit m)
types_hold limit type_row.LibraryItem token parts m n e = library_item_is limit token parts m n e
types_hold limit type_row.TypeItem token parts m n e = type_item_is limit parts m n e
types_hold limit type_row.NamedBody token parts m n e = named_body_is limit parts m n e
types_hold limit type_row.SectionsBody token parts m n e = sections_body_is limit parts m n e
types_hold limit type_row.Renaming token parts m n e = renaming_after_base_is limit parts m n e
types_hold limit type_row.Actualisation token parts m n e = actualisation_after_base_is limit parts m n e
types_hold limit type_row.Extension token parts m n e = extension_after_base_is limit parts m n e
types_hold limit type_row.Sections token parts m n e = sections_of_parts_is limit parts m n e
types_hold limit type_row.NoFormalSorts token parts m n e = no_names_is limit parts m n e
types_hold limit type_row.FormalSorts token parts m n e = same_names_is limit parts m n e
types_hold limit type_row.NoFormalOperations token parts m n e = no_operations_declared_is limit parts m n e
types_hold limit type_row.FormalOperations token parts m n e = same_operations_declared_is limit parts m n e
types_hold limit type_row.NoFormalEquations token parts m n e = no_equation_section_is limit parts m n e
types_hold limit type_row.FormalEquations token parts m n e = equation_section_is limit parts m n e
types_hold limit type_row.NoSorts token parts m n e = no_names_is limit parts m n e
types_hold limit type_row.Sorts token parts m n e = same_names_is limit parts m n e
types_hold limit type_row.NoOperations token parts m n e = no_operations_declared_is limit parts m n e
types_hold limit type_row.Operations token parts m n e = same_operations_declared_is limit parts m n e
types_hold limit type_row.NoEquations token parts m n e = no_equation_section_is limit parts m n e
types_hold limit type_row.Equations token parts m n e = equation_section_is limit parts m n e
types_hold limit type_row.NoOperationLines token parts m n e = no_operations_declared_is limit parts m n e
types_hold limit type_row.OperationLines token parts m n e = line_before_lines_is limit parts m n e
types_hold limit type_row.NoMoreOperations token parts m n e = no_more_operations_is limit parts m n e
types_hold limit type_row.MoreOperations token parts m n e = operation_before_operations_is limit parts m n e

abbrev pub equations_arity : EquationsRow → ℕ
equations_arity equation_row.NoVariablesForAll = 0
equations_arity equation_row.VariablesForAll = 1
equations_arity equation_row.NoEquationGroups = 0
equations_arity equation_row.EquationGroups = 4
equations_arity equation_row.NoEquationList = 0
equations_arity equation_row.EquationList = 2
equations_arity equation_row.NoAfterEquation = 0
equations_arity equation_row.AfterEquation = 1
equations_arity equation_row.Equation = 2
equations_arity equation_row.EqualsAfterTerm = 2
equations_arity equation_row.ConclusionAfterTerm = 1
equations_arity equation_row.NoAfterFirstPair = 0
equations_arity equation_row.AfterFirstPair = 1
equations_arity equation_row.PremissAndConclusion = 2
equations_arity equation_row.Conclusion = 2
equations_arity equation_row.Premiss = 2
equations_arity equation_row.NoPremissRight = 0
equations_arity equation_row.PremissRight = 1

equations_hold : (limit : ℕ) (row : EquationsRow) (token : Option Token) (parts : List Meaning) (m : Meaning)
    → length parts ≡ equations_arity row →
    equations_row_means row token parts ≡ Some m → equations_row_depth limit row (map (depth_of limit) parts) ≡ Some (depth_of limit m)
equations_hold limit equation_row.NoVariablesForAll token parts m n e = no_variables_is limit parts m n e
equations_hold limit equation_row.VariablesForAll token parts m n e = same_variables_is limit parts m n e
equations_hold limit equation_row.NoEquationGroups token parts m n e = no_groups_is limit parts m n e
equations_hold limit equation_row.EquationGroups token parts m n e = group_before_groups_is limit parts m n e
equations_hold limit equation_row.NoEquationList token parts m n e = no_equations_listed_is limit parts m n e
equations_hold limit equation_row.EquationList token parts m n e = equation_before_equations_is limit parts m n e
equations_hold limit equation_row.NoAfterEquation token parts m n e = no_equations_listed_is limit parts m n e
equations_hold limit equation_row.AfterEquation token parts m n e = same_equations_is limit parts m n e
equations_hold limit equation_row.Equation token parts m n e = equation_of_term_is limit parts m n e
equations_hold limit equation_row.EqualsAfterTerm token parts m n e = equals_after_term_is limit parts m n e
equations_hold limit equation_row.ConclusionAfterTerm token parts m n e = conclusion_after_term_is limit parts m n e
equations_hold limit equation_row.NoAfterFirstPair token parts m n e = no_conclusion_is limit parts m n e
equations_hold limit equation_row.AfterFirstPair token parts m n e = some_conclusion_is limit parts m n e
equations_hold limit equation_row.PremissAndConclusion token parts m n e = premiss_before_conclusion_is limit parts m n e
equations_hold limit equation_row.Conclusion token parts m n e = conclusion_of_terms_is limit token parts m n e
equations_hold limit equation_row.Premiss token parts m n e = premiss_of_term_is limit parts m n e
equations_hold limit equation_row.NoPremissRight token parts m n e = no_right_side_is limit parts m n e
equations_hold limit equation_row.PremissRight token parts m n e = some_right_side_is limit parts m n e

abbrev pub renamings_arity : RenamingsRow → ℕ
renamings_arity renaming_row.Renames = 2
renamings_arity renaming_row.NoSortRenames = 0
renamings_arity renaming_row.SortRenames = 1
renamings_arity renaming_row.SortPairs = 3
renamings_arity renaming_row.NoMoreSortPairs = 0
renamings_arity renaming_row.MoreSortPairsAfterComma = 1
renamings_arity renaming_row.MoreSortPairs = 1
renamings_arity renaming_row.NoOperationRenames = 0
renamings_arity renaming_row.OperationRenames = 1
renamings_arity renaming_row.OperationPairs = 3
renamings_arity renaming_row.NoMoreOperationPairs = 0
renamings_arity renaming_row.MoreOperationPairsAfterComma = 1
renamings_arity renaming_row.MoreOperationPairs = 1

renamings_hold : (limit : ℕ) (row : RenamingsRow) (token : Option Token) (parts : List Meaning) (m : Meaning)
    → length parts ≡ renamings_arity row →
    renamings_row_means row token parts ≡ Some m → closing_parts limit (map (depth_of limit) parts) ≡ Some (depth_of limit m)
renamings_hold limit renaming_row.Renames token parts m n e = pairs_of_both_is limit parts m n e
renamings_hold limit renaming_row.NoSortRenames token parts m n e = no_pairs_is limit parts m n e
renamings_hold limit renaming_row.SortRenames token parts m n e = same_pairs_is limit parts m n e
renamings_hold limit renaming_row.SortPairs token parts m n e = sort_pair_before_pairs_is limit parts m n e
renamings_hold limit renaming_row.NoMoreSortPairs token parts m n e = no_pairs_is limit parts m n e
renamings_hold limit renaming_row.MoreSortPairsAfterComma token parts m n e = same_pairs_is limit parts m n e
renamings_hold limit renaming_row.MoreSortPairs token parts m n e = same_pairs_is limit parts m n e
renamings_hold limit renaming_row.NoOperationRenames token parts m n e = no_pairs_is limit parts m n e
renamings_hold limit renaming_row.OperationRenames token parts m n e = same_pairs_is limit parts m n e
renamings_hold limit renaming_row.OperationPairs token parts m n e = operation_pair_before_pairs_is limit parts m n e
renamings_hold limit renaming_row.NoMoreOperationPairs token parts m n e = no_pairs_is limit parts m n e
renamings_hold limit renaming_row.MoreOperationPairsAfterComma token parts m n e = same_pairs_is limit parts m n e
renamings_hold limit renaming_row.MoreOperationPairs token parts m n e = same_pairs_is limit parts m n e

abbrev pub behaviours_arity : BehavioursRow → ℕ
behaviours_arity behaviour_row.Hide = 2
behaviours_arity behaviour_row.Let = 2
behaviours_arity behaviour_row.Choice = 2
behaviours_arity behaviour_row.Par = 3
behaviours_arity behaviour_row.Internal = 1
behaviours_arity behaviour_row.Guarded = 2
behaviours_arity behaviour_row.NameFirst = 2
behaviours_arity behaviour_row.Stop = 1
behaviours_arity behaviour_row.Exit = 2
behaviours_arity behaviour_row.BracketedBehaviour = 2
behaviours_arity behaviour_row.NoBehaviourTail = 0
behaviours_arity behaviour_row.BehaviourTail = 2
behaviours_arity behaviour_row.ActionWithoutOffers = 1
behaviours_arity behaviour_row.ActionWithOffers = 2
behaviours_arity behaviour_row.Call = 3
behaviours_arity behaviour_row.Give = 1
behaviours_arity behaviour_row.Ask = 2
behaviours_arity behaviour_row.OneMoreOffer = 2
behaviours_arity behaviour_row.SelectionAfterOffers = 2
behaviours_arity behaviour_row.PrefixAfterOffers = 1
behaviours_arity behaviour_row.NoExitValues = 0
behaviours_arity behaviour_row.ExitValues = 1
behaviours_arity behaviour_row.AnyExitValue = 2
behaviours_arity behaviour_row.GivenExitValue = 2
behaviours_arity behaviour_row.NoMoreExitValues = 0
behaviours_arity behaviour_row.MoreExitValues = 1
behaviours_arity behaviour_row.LetList = 4
behaviours_arity behaviour_row.NoMoreLets = 0
behaviours_arity behaviour_row.MoreLets = 1
behaviours_arity behaviour_row.ChoiceOfValues = 3
behaviours_arity behaviour_row.ChoiceOfGates = 3
behaviours_arity behaviour_row.Chosen = 1
behaviours_arity behaviour_row.GateChoices = 3
behaviours_arity behaviour_row.NoMoreGateChoices = 0
behaviours_arity behaviour_row.MoreGateChoices = 1
behaviours_arity behaviour_row.ChoiceSign = 0
behaviours_arity behaviour_row.ParallelSign = 1
behaviours_arity behaviour_row.DisablingSign = 0
behaviours_arity behaviour_row.EnablingSign = 1
behaviours_arity behaviour_row.Interleaving = 0
behaviours_arity behaviour_row.FullSynchronisation = 0
behaviours_arity behaviour_row.GateSynchronisation = 1
behaviours_arity behaviour_row.NoAccept = 0
behaviours_arity behaviour_row.Accept = 1

behaviours_hold : (limit : ℕ) (row : BehavioursRow) (token : Option Token) (parts : List Meaning) (m : Meaning)
    → length parts ≡ behaviours_arity row →
    behaviours_row_means row token parts ≡ Some m → behaviours_row_depth limit row token (map (depth_of limit) parts)
    ≡ Some (depth_of limit m)
behaviours_hold limit behaviour_row.Hide token parts m n e = hidden_is limit token parts m n e
behaviours_hold limit behaviour_row.Let token parts m n e = let_in_is limit token parts m n e
behaviours_hold limit behaviour_row.Choice token parts m n e = choice_after_word_is limit token parts m n e
behaviours_hold limit behaviour_row.Par token parts m n e = par_after_word_is limit token parts m n e
behaviours_hold limit behaviour_row.Internal token parts m n e = inner_prefixed_is limit token parts m n e
behaviours_hold limit behaviour_row.Guarded token parts m n e = guarded_is limit token parts m n e
behaviours_hold limit behaviour_row.NameFirst token parts m n e = name_first_is limit parts m n e
behaviours_hold limit behaviour_row.Stop token parts m n e = stopped_is limit token parts m n e
behaviours_hold limit behaviour_row.Exit token parts m n e = exited_is limit token parts m n e
behaviours_hold limit behaviour_row.BracketedBehaviour token parts m n e = bracketed_behaviour_is limit parts m n e
behaviours_hold limit behaviour_row.NoBehaviourTail token parts m n e = no_tail_is limit parts m n e
behaviours_hold limit behaviour_row.BehaviourTail token parts m n e = sign_before_behaviour_is limit parts m n e
behaviours_hold limit behaviour_row.ActionWithoutOffers token parts m n e = action_without_offers_is limit parts m n e
behaviours_hold limit behaviour_row.ActionWithOffers token parts m n e = offers_before_action_is limit parts m n e
behaviours_hold limit behaviour_row.Call token parts m n e = call_without_name_is limit parts m n e
behaviours_hold limit behaviour_row.Give token parts m n e = offer_of_value_is limit parts m n e
behaviours_hold limit behaviour_row.Ask token parts m n e = offers_of_variables_is limit parts m n e
behaviours_hold limit behaviour_row.OneMoreOffer token parts m n e = offers_before_action_is limit parts m n e
behaviours_hold limit behaviour_row.SelectionAfterOffers token parts m n e = action_with_selection_is limit parts m n e
behaviours_hold limit behaviour_row.PrefixAfterOffers token parts m n e = action_without_offers_is limit parts m n e
behaviours_hold limit behaviour_row.NoExitValues token parts m n e = no_exit_values_is limit parts m n e
behaviours_hold limit behaviour_row.ExitValues token parts m n e = same_exit_values_is limit parts m n e
behaviours_hold limit behaviour_row.AnyExitValue token parts m n e = any_before_exit_values_is limit parts m n e
behaviours_hold limit behaviour_row.GivenExitValue token parts m n e = term_before_exit_values_is limit parts m n e
behaviours_hold limit behaviour_row.NoMoreExitValues token parts m n e = no_exit_values_is limit parts m n e
behaviours_hold limit behaviour_row.MoreExitValues token parts m n e = same_exit_values_is limit parts m n e
behaviours_hold limit behaviour_row.LetList token parts m n e = let_before_lets_is limit parts m n e
behaviours_hold limit behaviour_row.NoMoreLets token parts m n e = no_lets_is limit parts m n e
behaviours_hold limit behaviour_row.MoreLets token parts m n e = same_lets_is limit parts m n e
behaviours_hold limit behaviour_row.ChoiceOfValues token parts m n e = value_choice_end_is limit parts m n e
behaviours_hold limit behaviour_row.ChoiceOfGates token parts m n e = gate_choice_end_is limit parts m n e
behaviours_hold limit behaviour_row.Chosen token parts m n e = chosen_is limit parts m n e
behaviours_hold limit behaviour_row.GateChoices token parts m n e = gates_before_gate_choices_is limit parts m n e
behaviours_hold limit behaviour_row.NoMoreGateChoices token parts m n e = no_gate_choices_is limit parts m n e
behaviours_hold limit behaviour_row.MoreGateChoices token parts m n e = same_gate_choices_is limit parts m n e
behaviours_hold limit behaviour_row.ChoiceSign token parts m n e = sign_of_token_is limit choice_sign token m e
behaviours_hold limit behaviour_row.ParallelSign token parts m n e = same_sign_is limit parts m n e
behaviours_hold limit behaviour_row.DisablingSign token parts m n e = sign_of_token_is limit disabling token m e
behaviours_hold limit behaviour_row.EnablingSign token parts m n e = enabling_sign_is limit token parts m n e
behaviours_hold limit behaviour_row.Interleaving token parts m n e = sign_of_token_is limit interleaving token m e
behaviours_hold limit behaviour_row.FullSynchronisation token parts m n e = sign_of_token_is limit full_synchronisation token m e
behaviours_hold limit behaviour_row.GateSynchronisation token parts m n e = gates_sign_is limit token parts m n e
behaviours_hold limit behaviour_row.NoAccept token parts m n e = no_variables_is limit parts m n e
behaviours_hold limit behaviour_row.Accept token parts m n e = same_variables_is limit parts m n e

abbrev pub definitions_arity : DefinitionsRow → ℕ
definitions_arity definition_row.Heading = 4
definitions_arity definition_row.NoParameters = 0
definitions_arity definition_row.Parameters = 1
definitions_arity definition_row.NoExit = 0
definitions_arity definition_row.ExitFunctionality = 1
definitions_arity definition_row.NoExitSorts = 0
definitions_arity definition_row.ExitSorts = 1
definitions_arity definition_row.NoWhere = 0
definitions_arity definition_row.Where = 1
definitions_arity definition_row.NothingInner = 0
definitions_arity definition_row.InnerItem = 2
definitions_arity definition_row.InnerProcess = 2
definitions_arity definition_row.Process = 3

definitions_hold : (limit : ℕ) (row : DefinitionsRow) (token : Option Token) (parts : List Meaning) (m : Meaning)
    → length parts ≡ definitions_arity row →
    definitions_row_means row token parts ≡ Some m → definitions_row_depth limit row (map (depth_of limit) parts) ≡ Some (depth_of limit m)
definitions_hold limit definition_row.Heading token parts m n e = heading_of_parts_is limit parts m n e
definitions_hold limit definition_row.NoParameters token parts m n e = no_variables_is limit parts m n e
definitions_hold limit definition_row.Parameters token parts m n e = same_variables_is limit parts m n e
definitions_hold limit definition_row.NoExit token parts m n e = no_exit_is limit parts m n e
definitions_hold limit definition_row.ExitFunctionality token parts m n e = exit_of_sorts_is limit parts m n e
definitions_hold limit definition_row.NoExitSorts token parts m n e = no_names_is limit parts m n e
definitions_hold limit definition_row.ExitSorts token parts m n e = same_names_is limit parts m n e
definitions_hold limit definition_row.NoWhere token parts m n e = nothing_inner_is limit parts m n e
definitions_hold limit definition_row.Where token parts m n e = same_inner_is limit parts m n e
definitions_hold limit definition_row.NothingInner token parts m n e = nothing_inner_is limit parts m n e
definitions_hold limit definition_row.InnerItem token parts m n e = item_before_inner_is limit parts m n e
definitions_hold limit definition_row.InnerProcess token parts m n e = process_before_inner_is limit parts m n e
definitions_hold limit definition_row.Process token parts m n e = process_of_parts_is limit parts m n e

abbrev pub specification_arity : SpecificationRow → ℕ
specification_arity specification_row.NoItems = 0
specification_arity specification_row.Items = 2
specification_arity specification_row.BehaviourWord = 0
specification_arity specification_row.BehaviorWord = 0

specification_hold : (limit : ℕ) (row : SpecificationRow) (token : Option Token) (parts : List Meaning) (m : Meaning)
    → length parts ≡ specification_arity row →
    specification_row_means row token parts ≡ Some m → closing_parts limit (map (depth_of limit) parts) ≡ Some (depth_of limit m)
specification_hold limit specification_row.NoItems token parts m n e = no_items_is limit parts m n e
specification_hold limit specification_row.Items token parts m n e = item_before_items_is limit parts m n e
specification_hold limit specification_row.BehaviourWord token parts m n e = a_behaviour_word_is limit parts m n e
specification_hold limit specification_row.BehaviorWord token parts m n e = a_behaviour_word_is limit parts m n e

abbrev pub starts_arity : StartsRow → ℕ
starts_arity start_row.Spec = 5
starts_arity start_row.Typetext = 1
starts_arity start_row.NoOrder = 0
starts_arity start_row.Order = 4
starts_arity start_row.NoOptionalProfile = 0
starts_arity start_row.OptionalProfile = 1
starts_arity start_row.NoTerms = 0
starts_arity start_row.Terms = 1
starts_arity start_row.NoOptionalStatus = 0
starts_arity start_row.OptionalStatus = 1

starts_hold : (limit : ℕ) (row : StartsRow) (token : Option Token) (parts : List Meaning) (m : Meaning) → length parts ≡ starts_arity row →
    starts_row_means row token parts ≡ Some m → starts_row_depth limit row (map (depth_of limit) parts) ≡ Some (depth_of limit m)
starts_hold limit start_row.Spec token parts m n e = specification_of_parts_is limit parts m n e
starts_hold limit start_row.Typetext token parts m n e = same_items_is limit parts m n e
starts_hold limit start_row.NoOrder token parts m n e = no_order_items_is limit parts m n e
starts_hold limit start_row.Order token parts m n e = item_before_order_is limit parts m n e
starts_hold limit start_row.NoOptionalProfile token parts m n e = no_profile_is limit parts m n e
starts_hold limit start_row.OptionalProfile token parts m n e = some_profile_is limit parts m n e
starts_hold limit start_row.NoTerms token parts m n e = no_terms_is limit parts m n e
starts_hold limit start_row.Terms token parts m n e = same_terms_is limit parts m n e
starts_hold limit start_row.NoOptionalStatus token parts m n e = no_status_is limit parts m n e
starts_hold limit start_row.OptionalStatus token parts m n e = some_status_is limit parts m n e

abbrev pub arity : RowName → ℕ
arity (of_subject.Names row) = names_arity row
arity (of_subject.Terms row) = terms_arity row
arity (of_subject.Types row) = types_arity row
arity (of_subject.Equations row) = equations_arity row
arity (of_subject.Renamings row) = renamings_arity row
arity (of_subject.Behaviours row) = behaviours_arity row
arity (of_subject.Definitions row) = definitions_arity row
arity (of_subject.Specification row) = specification_arity row
arity (of_subject.Starts row) = starts_arity row

pub row_holds : (limit : ℕ) (text : List ℕ) (name : RowName) (token : Option Token) (parts : List Meaning) (m : Meaning)
    → length parts ≡ arity name →
    row_means text name token parts ≡ Some m → row_depth limit name token (map (depth_of limit) parts) ≡ Some (depth_of limit m)
row_holds limit text (of_subject.Names row) token parts m n e = names_hold limit text row token parts m n e
row_holds limit text (of_subject.Terms row) token parts m n e = terms_hold limit row token parts m n e
row_holds limit text (of_subject.Types row) token parts m n e = types_hold limit row token parts m n e
row_holds limit text (of_subject.Equations row) token parts m n e = equations_hold limit row token parts m n e
row_holds limit text (of_subject.Renamings row) token parts m n e = renamings_hold limit row token parts m n e
row_holds limit text (of_subject.Behaviours row) token parts m n e = behaviours_hold limit row token parts m n e
row_holds limit text (of_subject.Definitions row) token parts m n e = definitions_hold limit row token parts m n e
row_holds limit text (of_subject.Specification row) token parts m n e = specification_hold limit row token parts m n e
row_holds limit text (of_subject.Starts row) token parts m n e = starts_hold limit row token parts m n e
