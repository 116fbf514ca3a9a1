-- The rows of names and lists of them keep what their parts are.
use Rattle.std.proofs.Common.{ℕ, List, [], ◌∷◌, ◌++◌, refl, subst, append_assoc}
use Rattle.std.proofs.lemmas.List.{append-nil}
use Rattle.ll_engine.specs.Values.{nothing, token, part}
use Rattle.lotos_lexer.specs.declared.tokens.Token.{Token}
use Rattle.lotos_lexer.specs.declared.kinds.TheConstants as kind
use Rattle.lotos_rows.specs.Row.{row_of}
use Rattle.lotos_rows.specs.declared.names.TheConstants as names
use Rattle.lotos_rows.specs.declared.names.NamesRow.TheVariants as row
use Rattle.lotos_rows.specs.declared.row_names.RowName.TheVariants.{Names}
use Rattle.ll_engine.specs.declared.symbol.Symbol.TheVariants.{Token as Tok, Part}
use Rattle.tree_building.specs.PartSentences.{as_one}
use Rattle.tree_building.specs.Sentences.{KeepsParts}
use Rattle.std.specs.Prelude.{flat_map}
use Rattle.lotos_base.specs.WrittenTerm.{PlacedName}
use Rattle.syntax_trees.specs.WrittenVariable.{WrittenVariable}
use Rattle.lotos_rows.specs.Words.{IsOfKind, Optional, left_out, there, last, before_more, Behind, behind, between}
use Rattle.lotos_rows.specs.Names.{IsName, AreNames, AreVariables, variables_of_sort, named}
use Rattle.lotos_rows.specs.Names as family
use Rattle.lotos_rows.specs.NamesRows.{names_rows}
use Rattle.tree_building.specs.NamesSentences.{none_further, further_behind, further_at_once}
use Rattle.lotos_base.proofs.Each.{Each}
use Rattle.tree_building.proofs.Lists.{is_of, shown, joined, joined_loosely}

module _ (text : List ℕ) where
  pub variables_joined : {own tokens : List Token} {colon sort : Token} (xs : List PlacedName) (more : List WrittenVariable) →
      AreNames text own xs → IsOfKind kind.COLON colon → IsOfKind kind.NAME sort →
      Optional [] (Behind kind.COMMA (AreVariables text)) tokens more →
      AreVariables text (own ++ colon ∷ sort ∷ tokens) (variables_of_sort xs (named text sort) ++ more)
  variables_joined xs more names_are colon sort left_out = family.variables (last (family.of_sort names_are colon sort))
  variables_joined {own = own} {colon = c} {sort = s} xs more names_are colon sort
      (there (behind {token = comma} {tokens = rest} comma_is (family.variables {groups = groups} more_groups))) =
      subst (λ (l : List Token). AreVariables text l (variables_of_sort xs (named text s) ++ flat_map (λ group. group) groups))
      (append_assoc own (c ∷ s ∷ []) (comma ∷ rest))
      (family.variables (before_more (family.of_sort names_are colon sort) comma_is more_groups))

  name_row : KeepsParts text (row_of (Names row.Name) names.NAME (Tok kind.NAME ∷ []))
  name_row _ _ value (token t1 i1 nothing) given = shown _ _ given (family.a_name (is_of t1 i1)) refl

  names_row : KeepsParts text (row_of (Names row.Names) names.NAMES (Part names.NAME ∷ Part names.MORE_NAMES ∷ []))
  names_row _ _ value (part (as_one p1) (part (as_one p2) nothing)) given = shown _ _ given (joined _ _ p1 p2) (simp (append-nil) refl)

  no_more_names_row : KeepsParts text (row_of (Names row.NoMoreNames) names.MORE_NAMES [])
  no_more_names_row _ _ value nothing given = shown _ _ given left_out refl

  more_names_row : KeepsParts text (row_of (Names row.MoreNames) names.MORE_NAMES (Tok kind.COMMA ∷ Part names.NAMES ∷ []))
  more_names_row _ _ value (token t1 i1 (part (as_one p1) nothing)) given =
      shown _ _ given (there (behind (is_of t1 i1) p1)) (simp (append-nil) refl)

  no_optional_names_row : KeepsParts text (row_of (Names row.NoOptionalNames) names.OPTIONAL_NAMES [])
  no_optional_names_row _ _ value nothing given = shown _ _ given left_out refl

  optional_names_row : KeepsParts text (row_of (Names row.OptionalNames) names.OPTIONAL_NAMES (Part names.NAMES ∷ []))
  optional_names_row _ _ value (part (as_one p1) nothing) given = shown _ _ given (there p1) (simp (append-nil) refl)

  gates_row : KeepsParts text
      (row_of (Names row.Gates) names.GATES (Tok kind.LEFT_BRACKET ∷ Part names.NAMES ∷ Tok kind.RIGHT_BRACKET ∷ []))
  gates_row _ _ value (token t1 i1 (part (as_one p1) (token t2 i2 nothing))) given =
      shown _ _ given (between (is_of t1 i1) p1 (is_of t2 i2)) refl

  no_optional_gates_row : KeepsParts text (row_of (Names row.NoOptionalGates) names.OPTIONAL_GATES [])
  no_optional_gates_row _ _ value nothing given = shown _ _ given left_out refl

  optional_gates_row : KeepsParts text (row_of (Names row.OptionalGates) names.OPTIONAL_GATES (Part names.GATES ∷ []))
  optional_gates_row _ _ value (part (as_one p1) nothing) given = shown _ _ given (there p1) (simp (append-nil) refl)

  loose_names_row : KeepsParts text (row_of (Names row.LooseNames) names.LOOSE_NAMES (Part names.NAME ∷ Part names.MORE_LOOSE_NAMES ∷ []))
  loose_names_row _ _ value (part (as_one p1) (part (as_one p2) nothing)) given =
      shown _ _ given (joined_loosely _ _ p1 p2) (simp (append-nil) refl)

  no_more_loose_names_row : KeepsParts text (row_of (Names row.NoMoreLooseNames) names.MORE_LOOSE_NAMES [])
  no_more_loose_names_row _ _ value nothing given = shown _ _ given none_further refl

  more_loose_names_after_comma_row : KeepsParts text
      (row_of (Names row.MoreLooseNamesAfterComma) names.MORE_LOOSE_NAMES (Tok kind.COMMA ∷ Part names.LOOSE_NAMES ∷ []))
  more_loose_names_after_comma_row _ _ value (token t1 i1 (part (as_one p1) nothing)) given =
      shown _ _ given (further_behind (is_of t1 i1) p1) (simp (append-nil) refl)

  more_loose_names_row : KeepsParts text (row_of (Names row.MoreLooseNames) names.MORE_LOOSE_NAMES (Part names.LOOSE_NAMES ∷ []))
  more_loose_names_row _ _ value (part (as_one p1) nothing) given = shown _ _ given (further_at_once p1) (simp (append-nil) refl)

  variables_row : KeepsParts text
      (row_of (Names row.Variables) names.VARIABLES (Part names.NAMES ∷ Tok kind.COLON ∷ Part names.NAME ∷ Part names.MORE_VARIABLES ∷ []))
  variables_row _ _ value (part (as_one p1) (token t1 i1 (part (as_one (family.a_name {name = sort} i)) (part (as_one p3) nothing))))
      given =
      shown _ _ given (variables_joined _ _ p1 (is_of t1 i1) i p3) (simp (append-nil) refl)

  no_more_variables_row : KeepsParts text (row_of (Names row.NoMoreVariables) names.MORE_VARIABLES [])
  no_more_variables_row _ _ value nothing given = shown _ _ given left_out refl

  more_variables_row : KeepsParts text (row_of (Names row.MoreVariables) names.MORE_VARIABLES (Tok kind.COMMA ∷ Part names.VARIABLES ∷ []))
  more_variables_row _ _ value (token t1 i1 (part (as_one p1) nothing)) given =
      shown _ _ given (there (behind (is_of t1 i1) p1)) (simp (append-nil) refl)

  name_of_operation_row : KeepsParts text (row_of (Names row.NameOfOperation) names.OPERATION_NAME (Part names.NAME ∷ []))
  name_of_operation_row _ _ value (part (as_one (family.a_name i)) nothing) given = shown _ _ given (family.word_name i) refl

  digit_name_row : KeepsParts text (row_of (Names row.DigitName) names.OPERATION_NAME (Tok kind.DIGIT_NAME ∷ []))
  digit_name_row _ _ value (token t1 i1 nothing) given = shown _ _ given (family.digit_name (is_of t1 i1)) refl

  sign_name_row : KeepsParts text (row_of (Names row.SignName) names.OPERATION_NAME (Tok kind.SIGN_NAME ∷ []))
  sign_name_row _ _ value (token t1 i1 nothing) given = shown _ _ given (family.sign_name (is_of t1 i1)) refl

  prefix_operation_row : KeepsParts text (row_of (Names row.PrefixOperation) names.OPERATION (Part names.OPERATION_NAME ∷ []))
  prefix_operation_row _ _ value (part (as_one p1) nothing) given = shown _ _ given (family.of_prefix_form p1) (simp (append-nil) refl)

  infix_operation_row : KeepsParts text
      (row_of (Names row.InfixOperation) names.OPERATION (Tok kind.UNDERSCORE ∷ Part names.OPERATION_NAME ∷ Tok kind.UNDERSCORE ∷ []))
  infix_operation_row _ _ value (token t1 i1 (part (as_one p1) (token t2 i2 nothing))) given =
      shown _ _ given (family.of_infix_form (is_of t1 i1) p1 (is_of t2 i2)) refl

  profile_row : KeepsParts text
      (row_of (Names row.Profile) names.PROFILE (Tok kind.COLON ∷ Part names.OPTIONAL_NAMES ∷ Tok kind.ARROW ∷ Part names.NAME ∷ []))
  profile_row _ _ value (token t1 i1 (part (as_one p1) (token t2 i2 (part (as_one (family.a_name i)) nothing)))) given =
      shown _ _ given (family.profile (is_of t1 i1) p1 (is_of t2 i2) i) refl

  pub names_keep : Each (KeepsParts text) names_rows
  names_keep = (
    name_row,
    (
      names_row,
      (
        no_more_names_row,
        (
          more_names_row,
          (
            no_optional_names_row,
            (
              optional_names_row,
              (
                gates_row,
                (
                  no_optional_gates_row,
                  (
                    optional_gates_row,
                    (
                      loose_names_row,
                      (
                        no_more_loose_names_row,
                        (
                          more_loose_names_after_comma_row,
                          (
                            more_loose_names_row,
                            (
                              variables_row,
                              (
                                no_more_variables_row,
                                (
                                  more_variables_row,
                                  (
                                    name_of_operation_row,
                                    (digit_name_row, (sign_name_row, (prefix_operation_row, (infix_operation_row, (profile_row, tt))))),
                                  ),
                                ),
                              ),
                            ),
                          ),
                        ),
                      ),
                    ),
                  ),
                ),
              ),
            ),
          ),
        ),
      ),
    ),
  )
