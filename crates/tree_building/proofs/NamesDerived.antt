-- A derivation by each row of this subject: names.
use Rattle.std.proofs.Common.{◌≡◌, ℕ, List, [], ◌∷◌, ◌++◌, refl, subst}
use Rattle.std.specs.Prelude.{Some, None}
use Rattle.std.proofs.lemmas.List.{append-nil}
use Rattle.ll_engine.specs.Values.{nothing, token, part}
use Rattle.lotos_lexer.specs.declared.tokens.Token.{Token}
use Rattle.lotos_lexer.specs.declared.kinds.TheConstants as kind
use Rattle.lotos_rows.specs.Row.{row_of}
use Rattle.lotos_rows.specs.declared.names.TheConstants as names
use Rattle.lotos_rows.specs.declared.names.NamesRow.TheVariants as row
use Rattle.lotos_rows.specs.declared.row_names.RowName.TheVariants.{Names}
use Rattle.ll_engine.specs.declared.symbol.Symbol.TheVariants.{Token as Tok, Part}
use Rattle.lotos_rows.specs.Words.{IsOfKind}
use Rattle.tree_building.specs.Meaning.{Meaning}
use Rattle.tree_building.specs.RowMeaning.{names_row_means}
use Rattle.tree_building.specs.Sentences.{Derived}
use Rattle.tree_building.proofs.DerivedBy.{derived_by}

module _ (text : List ℕ) where
  abbrev D : ℕ → List Token → Meaning → Type 0
  D = Derived text

  pub by_name : {t1 : Token} {value : Meaning} → IsOfKind kind.NAME t1 → names_row_means text row.Name (Some t1) ([]) ≡ Some value →
      D names.NAME (t1 ∷ []) value
  by_name {t1 = t1} i1 given =
      derived_by text 0 (row_of (Names row.Name) names.NAME (Tok kind.NAME ∷ [])) refl (token t1 i1.kind_is nothing) given

  pub by_names : {o1 o2 : List Token} {m1 m2 value : Meaning} → D names.NAME o1 m1 → D names.MORE_NAMES o2 m2 →
      names_row_means text row.Names None (m1 ∷ m2 ∷ []) ≡ Some value → D names.NAMES (o1 ++ o2) value
  by_names {o1 = o1} {o2 = o2} {m1 = m1} {m2 = m2} {value = value} d1 d2 given =
      subst (λ (l : List Token). D names.NAMES (o1 ++ l) value) (append-nil o2)
      (derived_by text 1 (row_of (Names row.Names) names.NAMES (Part names.NAME ∷ Part names.MORE_NAMES ∷ [])) refl
      (part d1 (part d2 nothing)) given)

  pub by_no_more_names : {value : Meaning} → names_row_means text row.NoMoreNames None ([]) ≡ Some value → D names.MORE_NAMES ([]) value
  by_no_more_names given = derived_by text 2 (row_of (Names row.NoMoreNames) names.MORE_NAMES ([])) refl nothing given

  pub by_more_names : {t1 : Token} {o1 : List Token} {m1 value : Meaning} → IsOfKind kind.COMMA t1 → D names.NAMES o1 m1 →
      names_row_means text row.MoreNames None (m1 ∷ []) ≡ Some value → D names.MORE_NAMES (t1 ∷ o1) value
  by_more_names {t1 = t1} {o1 = o1} {m1 = m1} {value = value} i1 d1 given =
      subst (λ (l : List Token). D names.MORE_NAMES (t1 ∷ l) value) (append-nil o1)
      (derived_by text 3 (row_of (Names row.MoreNames) names.MORE_NAMES (Tok kind.COMMA ∷ Part names.NAMES ∷ [])) refl
      (token t1 i1.kind_is (part d1 nothing)) given)

  pub by_no_optional_names : {value : Meaning} → names_row_means text row.NoOptionalNames None ([]) ≡ Some value →
      D names.OPTIONAL_NAMES ([]) value
  by_no_optional_names given = derived_by text 4 (row_of (Names row.NoOptionalNames) names.OPTIONAL_NAMES ([])) refl nothing given

  pub by_optional_names : {o1 : List Token} {m1 value : Meaning} → D names.NAMES o1 m1 →
      names_row_means text row.OptionalNames None (m1 ∷ []) ≡ Some value → D names.OPTIONAL_NAMES (o1) value
  by_optional_names {o1 = o1} {m1 = m1} {value = value} d1 given =
      subst (λ (l : List Token). D names.OPTIONAL_NAMES (l) value) (append-nil o1)
      (derived_by text 5 (row_of (Names row.OptionalNames) names.OPTIONAL_NAMES (Part names.NAMES ∷ [])) refl (part d1 nothing) given)

  pub by_gates : {t1 t2 : Token} {o1 : List Token} {m1 value : Meaning} → IsOfKind kind.LEFT_BRACKET t1 → D names.NAMES o1 m1 →
      IsOfKind kind.RIGHT_BRACKET t2 → names_row_means text row.Gates (Some t1) (m1 ∷ []) ≡ Some value →
      D names.GATES (t1 ∷ (o1 ++ (t2 ∷ []))) value
  by_gates {t1 = t1} {t2 = t2} i1 d1 i2 given =
      derived_by text 6 (row_of (Names row.Gates) names.GATES (Tok kind.LEFT_BRACKET ∷ Part names.NAMES ∷ Tok kind.RIGHT_BRACKET ∷ []))
      refl (token t1 i1.kind_is (part d1 (token t2 i2.kind_is nothing))) given

  pub by_no_optional_gates : {value : Meaning} → names_row_means text row.NoOptionalGates None ([]) ≡ Some value →
      D names.OPTIONAL_GATES ([]) value
  by_no_optional_gates given = derived_by text 7 (row_of (Names row.NoOptionalGates) names.OPTIONAL_GATES ([])) refl nothing given

  pub by_optional_gates : {o1 : List Token} {m1 value : Meaning} → D names.GATES o1 m1 →
      names_row_means text row.OptionalGates None (m1 ∷ []) ≡ Some value → D names.OPTIONAL_GATES (o1) value
  by_optional_gates {o1 = o1} {m1 = m1} {value = value} d1 given =
      subst (λ (l : List Token). D names.OPTIONAL_GATES (l) value) (append-nil o1)
      (derived_by text 8 (row_of (Names row.OptionalGates) names.OPTIONAL_GATES (Part names.GATES ∷ [])) refl (part d1 nothing) given)

  pub by_loose_names : {o1 o2 : List Token} {m1 m2 value : Meaning} → D names.NAME o1 m1 → D names.MORE_LOOSE_NAMES o2 m2 →
      names_row_means text row.LooseNames None (m1 ∷ m2 ∷ []) ≡ Some value → D names.LOOSE_NAMES (o1 ++ o2) value
  by_loose_names {o1 = o1} {o2 = o2} {m1 = m1} {m2 = m2} {value = value} d1 d2 given =
      subst (λ (l : List Token). D names.LOOSE_NAMES (o1 ++ l) value) (append-nil o2)
      (derived_by text 9 (row_of (Names row.LooseNames) names.LOOSE_NAMES (Part names.NAME ∷ Part names.MORE_LOOSE_NAMES ∷ [])) refl
      (part d1 (part d2 nothing)) given)

  pub by_no_more_loose_names : {value : Meaning} → names_row_means text row.NoMoreLooseNames None ([]) ≡ Some value →
      D names.MORE_LOOSE_NAMES ([]) value
  by_no_more_loose_names given = derived_by text 10 (row_of (Names row.NoMoreLooseNames) names.MORE_LOOSE_NAMES ([])) refl nothing given

  pub by_more_loose_names_after_comma : {t1 : Token} {o1 : List Token} {m1 value : Meaning} → IsOfKind kind.COMMA t1 →
      D names.LOOSE_NAMES o1 m1 → names_row_means text row.MoreLooseNamesAfterComma None (m1 ∷ []) ≡ Some value →
      D names.MORE_LOOSE_NAMES (t1 ∷ o1) value
  by_more_loose_names_after_comma {t1 = t1} {o1 = o1} {m1 = m1} {value = value} i1 d1 given =
      subst (λ (l : List Token). D names.MORE_LOOSE_NAMES (t1 ∷ l) value) (append-nil o1)
      (derived_by text 11
      (row_of (Names row.MoreLooseNamesAfterComma) names.MORE_LOOSE_NAMES (Tok kind.COMMA ∷ Part names.LOOSE_NAMES ∷ [])) refl
      (token t1 i1.kind_is (part d1 nothing)) given)

  pub by_more_loose_names : {o1 : List Token} {m1 value : Meaning} → D names.LOOSE_NAMES o1 m1 →
      names_row_means text row.MoreLooseNames None (m1 ∷ []) ≡ Some value → D names.MORE_LOOSE_NAMES (o1) value
  by_more_loose_names {o1 = o1} {m1 = m1} {value = value} d1 given =
      subst (λ (l : List Token). D names.MORE_LOOSE_NAMES (l) value) (append-nil o1)
      (derived_by text 12 (row_of (Names row.MoreLooseNames) names.MORE_LOOSE_NAMES (Part names.LOOSE_NAMES ∷ [])) refl
      (part d1 nothing) given)

  pub by_variables : {o1 o2 o3 : List Token} {m1 m2 m3 value : Meaning} {t1 : Token} → D names.NAMES o1 m1 → IsOfKind kind.COLON t1 →
      D names.NAME o2 m2 → D names.MORE_VARIABLES o3 m3 → names_row_means text row.Variables None (m1 ∷ m2 ∷ m3 ∷ []) ≡ Some value →
      D names.VARIABLES (o1 ++ (t1 ∷ (o2 ++ o3))) value
  by_variables {o1 = o1} {o2 = o2} {o3 = o3} {m1 = m1} {m2 = m2} {m3 = m3} {value = value} {t1 = t1} d1 i1 d2 d3 given =
      subst (λ (l : List Token). D names.VARIABLES (o1 ++ (t1 ∷ (o2 ++ l))) value) (append-nil o3)
      (derived_by text 13
      (row_of (Names row.Variables) names.VARIABLES
      (Part names.NAMES ∷ Tok kind.COLON ∷ Part names.NAME ∷ Part names.MORE_VARIABLES ∷ [])) refl
      (part d1 (token t1 i1.kind_is (part d2 (part d3 nothing)))) given)

  pub by_no_more_variables : {value : Meaning} → names_row_means text row.NoMoreVariables None ([]) ≡ Some value →
      D names.MORE_VARIABLES ([]) value
  by_no_more_variables given = derived_by text 14 (row_of (Names row.NoMoreVariables) names.MORE_VARIABLES ([])) refl nothing given

  pub by_more_variables : {t1 : Token} {o1 : List Token} {m1 value : Meaning} → IsOfKind kind.COMMA t1 → D names.VARIABLES o1 m1 →
      names_row_means text row.MoreVariables None (m1 ∷ []) ≡ Some value → D names.MORE_VARIABLES (t1 ∷ o1) value
  by_more_variables {t1 = t1} {o1 = o1} {m1 = m1} {value = value} i1 d1 given =
      subst (λ (l : List Token). D names.MORE_VARIABLES (t1 ∷ l) value) (append-nil o1)
      (derived_by text 15 (row_of (Names row.MoreVariables) names.MORE_VARIABLES (Tok kind.COMMA ∷ Part names.VARIABLES ∷ [])) refl
      (token t1 i1.kind_is (part d1 nothing)) given)

  pub by_name_of_operation : {o1 : List Token} {m1 value : Meaning} → D names.NAME o1 m1 →
      names_row_means text row.NameOfOperation None (m1 ∷ []) ≡ Some value → D names.OPERATION_NAME (o1) value
  by_name_of_operation {o1 = o1} {m1 = m1} {value = value} d1 given =
      subst (λ (l : List Token). D names.OPERATION_NAME (l) value) (append-nil o1)
      (derived_by text 16 (row_of (Names row.NameOfOperation) names.OPERATION_NAME (Part names.NAME ∷ [])) refl (part d1 nothing) given)

  pub by_digit_name : {t1 : Token} {value : Meaning} → IsOfKind kind.DIGIT_NAME t1 →
      names_row_means text row.DigitName (Some t1) ([]) ≡ Some value → D names.OPERATION_NAME (t1 ∷ []) value
  by_digit_name {t1 = t1} i1 given =
      derived_by text 17 (row_of (Names row.DigitName) names.OPERATION_NAME (Tok kind.DIGIT_NAME ∷ [])) refl (token t1 i1.kind_is nothing)
      given

  pub by_sign_name : {t1 : Token} {value : Meaning} → IsOfKind kind.SIGN_NAME t1 →
      names_row_means text row.SignName (Some t1) ([]) ≡ Some value → D names.OPERATION_NAME (t1 ∷ []) value
  by_sign_name {t1 = t1} i1 given =
      derived_by text 18 (row_of (Names row.SignName) names.OPERATION_NAME (Tok kind.SIGN_NAME ∷ [])) refl (token t1 i1.kind_is nothing)
      given

  pub by_prefix_operation : {o1 : List Token} {m1 value : Meaning} → D names.OPERATION_NAME o1 m1 →
      names_row_means text row.PrefixOperation None (m1 ∷ []) ≡ Some value → D names.OPERATION (o1) value
  by_prefix_operation {o1 = o1} {m1 = m1} {value = value} d1 given =
      subst (λ (l : List Token). D names.OPERATION (l) value) (append-nil o1)
      (derived_by text 19 (row_of (Names row.PrefixOperation) names.OPERATION (Part names.OPERATION_NAME ∷ [])) refl (part d1 nothing)
      given)

  pub by_infix_operation : {t1 t2 : Token} {o1 : List Token} {m1 value : Meaning} → IsOfKind kind.UNDERSCORE t1 →
      D names.OPERATION_NAME o1 m1 → IsOfKind kind.UNDERSCORE t2 → names_row_means text row.InfixOperation None (m1 ∷ []) ≡ Some value →
      D names.OPERATION (t1 ∷ (o1 ++ (t2 ∷ []))) value
  by_infix_operation {t1 = t1} {t2 = t2} i1 d1 i2 given =
      derived_by text 20
      (row_of (Names row.InfixOperation) names.OPERATION (Tok kind.UNDERSCORE ∷ Part names.OPERATION_NAME ∷ Tok kind.UNDERSCORE ∷ []))
      refl (token t1 i1.kind_is (part d1 (token t2 i2.kind_is nothing))) given

  pub by_profile : {t1 t2 : Token} {o1 o2 : List Token} {m1 m2 value : Meaning} → IsOfKind kind.COLON t1 → D names.OPTIONAL_NAMES o1 m1 →
      IsOfKind kind.ARROW t2 → D names.NAME o2 m2 → names_row_means text row.Profile None (m1 ∷ m2 ∷ []) ≡ Some value →
      D names.PROFILE (t1 ∷ (o1 ++ (t2 ∷ o2))) value
  by_profile {t1 = t1} {t2 = t2} {o1 = o1} {o2 = o2} {m1 = m1} {m2 = m2} {value = value} i1 d1 i2 d2 given =
      subst (λ (l : List Token). D names.PROFILE (t1 ∷ (o1 ++ (t2 ∷ l))) value) (append-nil o2)
      (derived_by text 21
      (row_of (Names row.Profile) names.PROFILE (Tok kind.COLON ∷ Part names.OPTIONAL_NAMES ∷ Tok kind.ARROW ∷ Part names.NAME ∷ []))
      refl (token t1 i1.kind_is (part d1 (token t2 i2.kind_is (part d2 nothing)))) given)
