-- Each row of this subject gives a meaning, where its parts have theirs: behaviours.
use Rattle.std.proofs.Common.{ℕ, List, [], ◌∷◌, refl, ap}
use Rattle.std.specs.Prelude.{option_and_then}
use Rattle.ll_engine.specs.Values.{nothing, token, part}
use Rattle.lotos_lexer.specs.declared.kinds.TheConstants as kind
use Rattle.lotos_rows.specs.Row.{row_of}
use Rattle.lotos_rows.specs.BehavioursRows.{behaviours_rows}
use Rattle.lotos_rows.specs.declared.behaviours.TheConstants as behaviours
use Rattle.lotos_rows.specs.declared.equations.TheConstants as equations
use Rattle.lotos_rows.specs.declared.names.TheConstants as names
use Rattle.lotos_rows.specs.declared.terms.TheConstants as terms
use Rattle.lotos_rows.specs.declared.behaviours.BehavioursRow.TheVariants as row
use Rattle.lotos_rows.specs.declared.row_names.RowName.TheVariants.{Behaviours}
use Rattle.ll_engine.specs.declared.symbol.Symbol.TheVariants.{Token as Tok, Part}
use Rattle.lotos_rows.specs.Words.{behind}
use Rattle.tree_building.specs.BehavioursSentences.{acts_at_once, acts_with_offers, calls, of_values, of_gates}
use Rattle.tree_building.specs.PartSentences.{as_one}
use Rattle.tree_building.specs.Sentences.{GivesMeaning}
use Rattle.lotos_base.proofs.Each.{Each}
use Rattle.tree_building.proofs.FlatLists.{inside_of}

module _ (text : List ℕ) where
  hide_gives : GivesMeaning text
      (row_of (Behaviours row.Hide) behaviours.BEHAVIOUR (Tok kind.HIDE ∷ Part names.NAMES ∷ Tok kind.IN ∷ Part behaviours.BEHAVIOUR ∷ []))
  hide_gives _ _ (token _ _ (part (as_one _) (token _ _ (part (as_one p) nothing)))) = (_, ap (option_and_then _) (inside_of text p).1)

  let_gives : GivesMeaning text
      (row_of (Behaviours row.Let) behaviours.BEHAVIOUR
      (Tok kind.LET ∷ Part behaviours.LET_LIST ∷ Tok kind.IN ∷ Part behaviours.BEHAVIOUR ∷ []))
  let_gives _ _ (token _ _ (part (as_one _) (token _ _ (part (as_one p) nothing)))) = (_, ap (option_and_then _) (inside_of text p).1)

  choice_gives : GivesMeaning text
      (row_of (Behaviours row.Choice) behaviours.BEHAVIOUR (Tok kind.CHOICE ∷ Part names.NAMES ∷ Part behaviours.AFTER_CHOICE ∷ []))
  choice_gives _ _ (token _ _ (part (as_one _) (part (of_values _ _ _ (behind _ _)) nothing))) = (_, refl)
  choice_gives _ _ (token _ _ (part (as_one _) (part (of_gates _ _ _ (behind _ _)) nothing))) = (_, refl)

  par_gives : GivesMeaning text
      (row_of (Behaviours row.Par) behaviours.BEHAVIOUR
      (Tok kind.PAR ∷ Part behaviours.GATE_CHOICES ∷ Part behaviours.PARALLEL ∷ Part behaviours.BEHAVIOUR ∷ []))
  par_gives _ _ (token _ _ (part (as_one _) (part (as_one _) (part (as_one p) nothing)))) = (_, ap (option_and_then _) (inside_of text p).1)

  internal_gives : GivesMeaning text
      (row_of (Behaviours row.Internal) behaviours.BEHAVIOUR (Tok kind.I ∷ Tok kind.SEMICOLON ∷ Part behaviours.BEHAVIOUR ∷ []))
  internal_gives _ _ (token _ _ (token _ _ (part (as_one _) nothing))) = (_, refl)

  guarded_gives : GivesMeaning text
      (row_of (Behaviours row.Guarded) behaviours.BEHAVIOUR
      (Tok kind.LEFT_BRACKET ∷ Part equations.PREMISS ∷ Tok kind.RIGHT_BRACKET ∷ Tok kind.ARROW ∷ Part behaviours.BEHAVIOUR ∷ []))
  guarded_gives _ _ (token _ _ (part (as_one _) (token _ _ (token _ _ (part (as_one _) nothing))))) = (_, refl)

  name_first_gives : GivesMeaning text
      (row_of (Behaviours row.NameFirst) behaviours.BEHAVIOUR (Part names.NAME ∷ Part behaviours.AFTER_NAME ∷ []))
  name_first_gives _ _ (part (as_one _) (part (acts_at_once _ _) nothing)) = (_, refl)
  name_first_gives _ _ (part (as_one _) (part (acts_with_offers _ _) nothing)) = (_, refl)
  name_first_gives _ _ (part (as_one _) (part (calls _ _ _) nothing)) = (_, refl)

  stop_gives : GivesMeaning text (row_of (Behaviours row.Stop) behaviours.BEHAVIOUR (Tok kind.STOP ∷ Part behaviours.BEHAVIOUR_TAIL ∷ []))
  stop_gives _ _ (token _ _ (part (as_one _) nothing)) = (_, refl)

  exit_gives : GivesMeaning text
      (row_of (Behaviours row.Exit) behaviours.BEHAVIOUR
      (Tok kind.EXIT ∷ Part behaviours.EXIT_VALUES ∷ Part behaviours.BEHAVIOUR_TAIL ∷ []))
  exit_gives _ _ (token _ _ (part (as_one _) (part (as_one _) nothing))) = (_, refl)

  bracketed_behaviour_gives : GivesMeaning text
      (row_of (Behaviours row.BracketedBehaviour) behaviours.BEHAVIOUR
      (Tok kind.LEFT_PARENTHESIS ∷ Part behaviours.BEHAVIOUR ∷ Tok kind.RIGHT_PARENTHESIS ∷ Part behaviours.BEHAVIOUR_TAIL ∷ []))
  bracketed_behaviour_gives _ _ (token _ _ (part (as_one p) (token _ _ (part (as_one _) nothing)))) =
      (_, ap (option_and_then _) (inside_of text p).1)

  no_behaviour_tail_gives : GivesMeaning text (row_of (Behaviours row.NoBehaviourTail) behaviours.BEHAVIOUR_TAIL [])
  no_behaviour_tail_gives _ _ nothing = (_, refl)

  behaviour_tail_gives : GivesMeaning text
      (row_of (Behaviours row.BehaviourTail) behaviours.BEHAVIOUR_TAIL (Part behaviours.SIGN ∷ Part behaviours.BEHAVIOUR ∷ []))
  behaviour_tail_gives _ _ (part (as_one _) (part (as_one _) nothing)) = (_, refl)

  action_without_offers_gives : GivesMeaning text
      (row_of (Behaviours row.ActionWithoutOffers) behaviours.AFTER_NAME (Tok kind.SEMICOLON ∷ Part behaviours.BEHAVIOUR ∷ []))
  action_without_offers_gives _ _ (token _ _ (part (as_one _) nothing)) = (_, refl)

  action_with_offers_gives : GivesMeaning text
      (row_of (Behaviours row.ActionWithOffers) behaviours.AFTER_NAME (Part behaviours.OFFER ∷ Part behaviours.AFTER_OFFER ∷ []))
  action_with_offers_gives _ _ (part (as_one _) (part (as_one _) nothing)) = (_, refl)

  call_gives : GivesMeaning text
      (row_of (Behaviours row.Call) behaviours.AFTER_NAME
      (Part names.OPTIONAL_GATES ∷ Part terms.ARGUMENTS ∷ Part behaviours.BEHAVIOUR_TAIL ∷ []))
  call_gives _ _ (part (as_one _) (part (as_one _) (part (as_one _) nothing))) = (_, refl)

  give_gives : GivesMeaning text (row_of (Behaviours row.Give) behaviours.OFFER (Tok kind.EXCLAMATION ∷ Part terms.TERM ∷ []))
  give_gives _ _ (token _ _ (part (as_one _) nothing)) = (_, refl)

  ask_gives : GivesMeaning text
      (row_of (Behaviours row.Ask) behaviours.OFFER (Tok kind.QUESTION ∷ Part names.NAMES ∷ Tok kind.COLON ∷ Part names.NAME ∷ []))
  ask_gives _ _ (token _ _ (part (as_one _) (token _ _ (part (as_one _) nothing)))) = (_, refl)

  one_more_offer_gives : GivesMeaning text
      (row_of (Behaviours row.OneMoreOffer) behaviours.AFTER_OFFER (Part behaviours.OFFER ∷ Part behaviours.AFTER_OFFER ∷ []))
  one_more_offer_gives _ _ (part (as_one _) (part (as_one _) nothing)) = (_, refl)

  selection_after_offers_gives : GivesMeaning text
      (row_of (Behaviours row.SelectionAfterOffers) behaviours.AFTER_OFFER
      (Tok kind.LEFT_BRACKET ∷ Part equations.PREMISS ∷ Tok kind.RIGHT_BRACKET ∷ Tok kind.SEMICOLON ∷ Part behaviours.BEHAVIOUR ∷ []))
  selection_after_offers_gives _ _ (token _ _ (part (as_one _) (token _ _ (token _ _ (part (as_one _) nothing))))) = (_, refl)

  prefix_after_offers_gives : GivesMeaning text
      (row_of (Behaviours row.PrefixAfterOffers) behaviours.AFTER_OFFER (Tok kind.SEMICOLON ∷ Part behaviours.BEHAVIOUR ∷ []))
  prefix_after_offers_gives _ _ (token _ _ (part (as_one _) nothing)) = (_, refl)

  no_exit_values_gives : GivesMeaning text (row_of (Behaviours row.NoExitValues) behaviours.EXIT_VALUES [])
  no_exit_values_gives _ _ nothing = (_, refl)

  exit_values_gives : GivesMeaning text
      (row_of (Behaviours row.ExitValues) behaviours.EXIT_VALUES
      (Tok kind.LEFT_PARENTHESIS ∷ Part behaviours.EXIT_LIST ∷ Tok kind.RIGHT_PARENTHESIS ∷ []))
  exit_values_gives _ _ (token _ _ (part (as_one _) (token _ _ nothing))) = (_, refl)

  any_exit_value_gives : GivesMeaning text
      (row_of (Behaviours row.AnyExitValue) behaviours.EXIT_LIST (Tok kind.ANY ∷ Part names.NAME ∷ Part behaviours.MORE_EXIT_VALUES ∷ []))
  any_exit_value_gives _ _ (token _ _ (part (as_one _) (part (as_one _) nothing))) = (_, refl)

  given_exit_value_gives : GivesMeaning text
      (row_of (Behaviours row.GivenExitValue) behaviours.EXIT_LIST (Part terms.TERM ∷ Part behaviours.MORE_EXIT_VALUES ∷ []))
  given_exit_value_gives _ _ (part (as_one _) (part (as_one _) nothing)) = (_, refl)

  no_more_exit_values_gives : GivesMeaning text (row_of (Behaviours row.NoMoreExitValues) behaviours.MORE_EXIT_VALUES [])
  no_more_exit_values_gives _ _ nothing = (_, refl)

  more_exit_values_gives : GivesMeaning text
      (row_of (Behaviours row.MoreExitValues) behaviours.MORE_EXIT_VALUES (Tok kind.COMMA ∷ Part behaviours.EXIT_LIST ∷ []))
  more_exit_values_gives _ _ (token _ _ (part (as_one _) nothing)) = (_, refl)

  let_list_gives : GivesMeaning text
      (row_of (Behaviours row.LetList) behaviours.LET_LIST
      (Part names.NAME ∷ Tok kind.COLON ∷ Part names.NAME ∷ Tok kind.EQUALS ∷ Part terms.TERM ∷ Part behaviours.MORE_LETS ∷ []))
  let_list_gives _ _ (part (as_one _) (token _ _ (part (as_one _) (token _ _ (part (as_one _) (part (as_one _) nothing)))))) = (_, refl)

  no_more_lets_gives : GivesMeaning text (row_of (Behaviours row.NoMoreLets) behaviours.MORE_LETS [])
  no_more_lets_gives _ _ nothing = (_, refl)

  more_lets_gives : GivesMeaning text
      (row_of (Behaviours row.MoreLets) behaviours.MORE_LETS (Tok kind.COMMA ∷ Part behaviours.LET_LIST ∷ []))
  more_lets_gives _ _ (token _ _ (part (as_one _) nothing)) = (_, refl)

  choice_of_values_gives : GivesMeaning text
      (row_of (Behaviours row.ChoiceOfValues) behaviours.AFTER_CHOICE
      (Tok kind.COLON ∷ Part names.NAME ∷ Part names.MORE_VARIABLES ∷ Part behaviours.CHOSEN ∷ []))
  choice_of_values_gives _ _ (token _ _ (part (as_one _) (part (as_one _) (part (as_one _) nothing)))) = (_, refl)

  choice_of_gates_gives : GivesMeaning text
      (row_of (Behaviours row.ChoiceOfGates) behaviours.AFTER_CHOICE
      (Tok kind.IN ∷ Part names.GATES ∷ Part behaviours.MORE_GATE_CHOICES ∷ Part behaviours.CHOSEN ∷ []))
  choice_of_gates_gives _ _ (token _ _ (part (as_one _) (part (as_one _) (part (as_one _) nothing)))) = (_, refl)

  chosen_gives : GivesMeaning text
      (row_of (Behaviours row.Chosen) behaviours.CHOSEN (Tok kind.CHOICE_SIGN ∷ Part behaviours.BEHAVIOUR ∷ []))
  chosen_gives _ _ (token _ _ (part (as_one p) nothing)) = (_, ap (option_and_then _) (inside_of text p).1)

  gate_choices_gives : GivesMeaning text
      (row_of (Behaviours row.GateChoices) behaviours.GATE_CHOICES
      (Part names.NAMES ∷ Tok kind.IN ∷ Part names.GATES ∷ Part behaviours.MORE_GATE_CHOICES ∷ []))
  gate_choices_gives _ _ (part (as_one _) (token _ _ (part (as_one _) (part (as_one _) nothing)))) = (_, refl)

  no_more_gate_choices_gives : GivesMeaning text (row_of (Behaviours row.NoMoreGateChoices) behaviours.MORE_GATE_CHOICES [])
  no_more_gate_choices_gives _ _ nothing = (_, refl)

  more_gate_choices_gives : GivesMeaning text
      (row_of (Behaviours row.MoreGateChoices) behaviours.MORE_GATE_CHOICES (Tok kind.COMMA ∷ Part behaviours.GATE_CHOICES ∷ []))
  more_gate_choices_gives _ _ (token _ _ (part (as_one _) nothing)) = (_, refl)

  choice_sign_gives : GivesMeaning text (row_of (Behaviours row.ChoiceSign) behaviours.SIGN (Tok kind.CHOICE_SIGN ∷ []))
  choice_sign_gives _ _ (token _ _ nothing) = (_, refl)

  parallel_sign_gives : GivesMeaning text (row_of (Behaviours row.ParallelSign) behaviours.SIGN (Part behaviours.PARALLEL ∷ []))
  parallel_sign_gives _ _ (part (as_one _) nothing) = (_, refl)

  disabling_sign_gives : GivesMeaning text (row_of (Behaviours row.DisablingSign) behaviours.SIGN (Tok kind.DISABLING ∷ []))
  disabling_sign_gives _ _ (token _ _ nothing) = (_, refl)

  enabling_sign_gives : GivesMeaning text
      (row_of (Behaviours row.EnablingSign) behaviours.SIGN (Tok kind.ENABLING ∷ Part behaviours.ACCEPT ∷ []))
  enabling_sign_gives _ _ (token _ _ (part (as_one _) nothing)) = (_, refl)

  interleaving_gives : GivesMeaning text (row_of (Behaviours row.Interleaving) behaviours.PARALLEL (Tok kind.INTERLEAVING ∷ []))
  interleaving_gives _ _ (token _ _ nothing) = (_, refl)

  full_synchronisation_gives : GivesMeaning text
      (row_of (Behaviours row.FullSynchronisation) behaviours.PARALLEL (Tok kind.FULL_SYNCHRONISATION ∷ []))
  full_synchronisation_gives _ _ (token _ _ nothing) = (_, refl)

  gate_synchronisation_gives : GivesMeaning text
      (row_of (Behaviours row.GateSynchronisation) behaviours.PARALLEL
      (Tok kind.GATES_OPEN ∷ Part names.OPTIONAL_NAMES ∷ Tok kind.GATES_CLOSE ∷ []))
  gate_synchronisation_gives _ _ (token _ _ (part (as_one _) (token _ _ nothing))) = (_, refl)

  no_accept_gives : GivesMeaning text (row_of (Behaviours row.NoAccept) behaviours.ACCEPT [])
  no_accept_gives _ _ nothing = (_, refl)

  accept_gives : GivesMeaning text
      (row_of (Behaviours row.Accept) behaviours.ACCEPT (Tok kind.ACCEPT ∷ Part names.VARIABLES ∷ Tok kind.IN ∷ []))
  accept_gives _ _ (token _ _ (part (as_one _) (token _ _ nothing))) = (_, refl)

  pub behaviours_give : Each (GivesMeaning text) behaviours_rows
  behaviours_give = (
    hide_gives,
    (
      let_gives,
      (
        choice_gives,
        (
          par_gives,
          (
            internal_gives,
            (
              guarded_gives,
              (
                name_first_gives,
                (
                  stop_gives,
                  (
                    exit_gives,
                    (
                      bracketed_behaviour_gives,
                      (
                        no_behaviour_tail_gives,
                        (
                          behaviour_tail_gives,
                          (
                            action_without_offers_gives,
                            (
                              action_with_offers_gives,
                              (
                                call_gives,
                                (
                                  give_gives,
                                  (
                                    ask_gives,
                                    (
                                      one_more_offer_gives,
                                      (
                                        selection_after_offers_gives,
                                        (
                                          prefix_after_offers_gives,
                                          (
                                            no_exit_values_gives,
                                            (
                                              exit_values_gives,
                                              (
                                                any_exit_value_gives,
                                                (
                                                  given_exit_value_gives,
                                                  (
                                                    no_more_exit_values_gives,
                                                    (
                                                      more_exit_values_gives,
                                                      (
                                                        let_list_gives,
                                                        (
                                                          no_more_lets_gives,
                                                          (
                                                            more_lets_gives,
                                                            (
                                                              choice_of_values_gives,
                                                              (
                                                                choice_of_gates_gives,
                                                                (
                                                                  chosen_gives,
                                                                  (
                                                                    gate_choices_gives,
                                                                    (
                                                                      no_more_gate_choices_gives,
                                                                      (
                                                                        more_gate_choices_gives,
                                                                        (
                                                                          choice_sign_gives,
                                                                          (
                                                                            parallel_sign_gives,
                                                                            (
                                                                              disabling_sign_gives,
                                                                              (
                                                                                enabling_sign_gives,
                                                                                (
                                                                                  interleaving_gives,
                                                                                  (
                                                                                    full_synchronisation_gives,
                                                                                    (
                                                                                      gate_synchronisation_gives,
                                                                                      (no_accept_gives, (accept_gives, tt)),
                                                                                    ),
                                                                                  ),
                                                                                ),
                                                                              ),
                                                                            ),
                                                                          ),
                                                                        ),
                                                                      ),
                                                                    ),
                                                                  ),
                                                                ),
                                                              ),
                                                            ),
                                                          ),
                                                        ),
                                                      ),
                                                    ),
                                                  ),
                                                ),
                                              ),
                                            ),
                                          ),
                                        ),
                                      ),
                                    ),
                                  ),
                                ),
                              ),
                            ),
                          ),
                        ),
                      ),
                    ),
                  ),
                ),
              ),
            ),
          ),
        ),
      ),
    ),
  )
