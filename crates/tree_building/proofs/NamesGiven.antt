-- Each row of this subject gives a meaning, where its parts have theirs: names.
use Rattle.std.proofs.Common.{ℕ, List, [], ◌∷◌, refl}
use Rattle.ll_engine.specs.Values.{nothing, token, part}
use Rattle.lotos_lexer.specs.declared.kinds.TheConstants as kind
use Rattle.lotos_rows.specs.Row.{row_of}
use Rattle.lotos_rows.specs.NamesRows.{names_rows}
use Rattle.lotos_rows.specs.declared.names.TheConstants as names
use Rattle.lotos_rows.specs.declared.names.NamesRow.TheVariants as row
use Rattle.lotos_rows.specs.declared.row_names.RowName.TheVariants.{Names}
use Rattle.ll_engine.specs.declared.symbol.Symbol.TheVariants.{Token as Tok, Part}
use Rattle.tree_building.specs.PartSentences.{as_one}
use Rattle.tree_building.specs.Sentences.{GivesMeaning}
use Rattle.lotos_base.proofs.Each.{Each}

module _ (text : List ℕ) where
  name_gives : GivesMeaning text (row_of (Names row.Name) names.NAME (Tok kind.NAME ∷ []))
  name_gives _ _ (token _ _ nothing) = (_, refl)

  names_gives : GivesMeaning text (row_of (Names row.Names) names.NAMES (Part names.NAME ∷ Part names.MORE_NAMES ∷ []))
  names_gives _ _ (part (as_one _) (part (as_one _) nothing)) = (_, refl)

  no_more_names_gives : GivesMeaning text (row_of (Names row.NoMoreNames) names.MORE_NAMES [])
  no_more_names_gives _ _ nothing = (_, refl)

  more_names_gives : GivesMeaning text (row_of (Names row.MoreNames) names.MORE_NAMES (Tok kind.COMMA ∷ Part names.NAMES ∷ []))
  more_names_gives _ _ (token _ _ (part (as_one _) nothing)) = (_, refl)

  no_optional_names_gives : GivesMeaning text (row_of (Names row.NoOptionalNames) names.OPTIONAL_NAMES [])
  no_optional_names_gives _ _ nothing = (_, refl)

  optional_names_gives : GivesMeaning text (row_of (Names row.OptionalNames) names.OPTIONAL_NAMES (Part names.NAMES ∷ []))
  optional_names_gives _ _ (part (as_one _) nothing) = (_, refl)

  gates_gives : GivesMeaning text
      (row_of (Names row.Gates) names.GATES (Tok kind.LEFT_BRACKET ∷ Part names.NAMES ∷ Tok kind.RIGHT_BRACKET ∷ []))
  gates_gives _ _ (token _ _ (part (as_one _) (token _ _ nothing))) = (_, refl)

  no_optional_gates_gives : GivesMeaning text (row_of (Names row.NoOptionalGates) names.OPTIONAL_GATES [])
  no_optional_gates_gives _ _ nothing = (_, refl)

  optional_gates_gives : GivesMeaning text (row_of (Names row.OptionalGates) names.OPTIONAL_GATES (Part names.GATES ∷ []))
  optional_gates_gives _ _ (part (as_one _) nothing) = (_, refl)

  loose_names_gives : GivesMeaning text
      (row_of (Names row.LooseNames) names.LOOSE_NAMES (Part names.NAME ∷ Part names.MORE_LOOSE_NAMES ∷ []))
  loose_names_gives _ _ (part (as_one _) (part (as_one _) nothing)) = (_, refl)

  no_more_loose_names_gives : GivesMeaning text (row_of (Names row.NoMoreLooseNames) names.MORE_LOOSE_NAMES [])
  no_more_loose_names_gives _ _ nothing = (_, refl)

  more_loose_names_after_comma_gives : GivesMeaning text
      (row_of (Names row.MoreLooseNamesAfterComma) names.MORE_LOOSE_NAMES (Tok kind.COMMA ∷ Part names.LOOSE_NAMES ∷ []))
  more_loose_names_after_comma_gives _ _ (token _ _ (part (as_one _) nothing)) = (_, refl)

  more_loose_names_gives : GivesMeaning text (row_of (Names row.MoreLooseNames) names.MORE_LOOSE_NAMES (Part names.LOOSE_NAMES ∷ []))
  more_loose_names_gives _ _ (part (as_one _) nothing) = (_, refl)

  variables_gives : GivesMeaning text
      (row_of (Names row.Variables) names.VARIABLES (Part names.NAMES ∷ Tok kind.COLON ∷ Part names.NAME ∷ Part names.MORE_VARIABLES ∷ []))
  variables_gives _ _ (part (as_one _) (token _ _ (part (as_one _) (part (as_one _) nothing)))) = (_, refl)

  no_more_variables_gives : GivesMeaning text (row_of (Names row.NoMoreVariables) names.MORE_VARIABLES [])
  no_more_variables_gives _ _ nothing = (_, refl)

  more_variables_gives : GivesMeaning text
      (row_of (Names row.MoreVariables) names.MORE_VARIABLES (Tok kind.COMMA ∷ Part names.VARIABLES ∷ []))
  more_variables_gives _ _ (token _ _ (part (as_one _) nothing)) = (_, refl)

  name_of_operation_gives : GivesMeaning text (row_of (Names row.NameOfOperation) names.OPERATION_NAME (Part names.NAME ∷ []))
  name_of_operation_gives _ _ (part (as_one _) nothing) = (_, refl)

  digit_name_gives : GivesMeaning text (row_of (Names row.DigitName) names.OPERATION_NAME (Tok kind.DIGIT_NAME ∷ []))
  digit_name_gives _ _ (token _ _ nothing) = (_, refl)

  sign_name_gives : GivesMeaning text (row_of (Names row.SignName) names.OPERATION_NAME (Tok kind.SIGN_NAME ∷ []))
  sign_name_gives _ _ (token _ _ nothing) = (_, refl)

  prefix_operation_gives : GivesMeaning text (row_of (Names row.PrefixOperation) names.OPERATION (Part names.OPERATION_NAME ∷ []))
  prefix_operation_gives _ _ (part (as_one _) nothing) = (_, refl)

  infix_operation_gives : GivesMeaning text
      (row_of (Names row.InfixOperation) names.OPERATION (Tok kind.UNDERSCORE ∷ Part names.OPERATION_NAME ∷ Tok kind.UNDERSCORE ∷ []))
  infix_operation_gives _ _ (token _ _ (part (as_one _) (token _ _ nothing))) = (_, refl)

  profile_gives : GivesMeaning text
      (row_of (Names row.Profile) names.PROFILE (Tok kind.COLON ∷ Part names.OPTIONAL_NAMES ∷ Tok kind.ARROW ∷ Part names.NAME ∷ []))
  profile_gives _ _ (token _ _ (part (as_one _) (token _ _ (part (as_one _) nothing)))) = (_, refl)

  pub names_give : Each (GivesMeaning text) names_rows
  names_give = (
    name_gives,
    (
      names_gives,
      (
        no_more_names_gives,
        (
          more_names_gives,
          (
            no_optional_names_gives,
            (
              optional_names_gives,
              (
                gates_gives,
                (
                  no_optional_gates_gives,
                  (
                    optional_gates_gives,
                    (
                      loose_names_gives,
                      (
                        no_more_loose_names_gives,
                        (
                          more_loose_names_after_comma_gives,
                          (
                            more_loose_names_gives,
                            (
                              variables_gives,
                              (
                                no_more_variables_gives,
                                (
                                  more_variables_gives,
                                  (
                                    name_of_operation_gives,
                                    (
                                      digit_name_gives,
                                      (sign_name_gives, (prefix_operation_gives, (infix_operation_gives, (profile_gives, tt)))),
                                    ),
                                  ),
                                ),
                              ),
                            ),
                          ),
                        ),
                      ),
                    ),
                  ),
                ),
              ),
            ),
          ),
        ),
      ),
    ),
  )
