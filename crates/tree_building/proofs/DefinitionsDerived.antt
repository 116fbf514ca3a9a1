-- A derivation by each row of this subject: definitions.
use Rattle.std.proofs.Common.{◌≡◌, ℕ, List, [], ◌∷◌, ◌++◌, refl, subst}
use Rattle.std.specs.Prelude.{Some, None}
use Rattle.std.proofs.lemmas.List.{append-nil}
use Rattle.ll_engine.specs.Values.{nothing, token, part}
use Rattle.lotos_lexer.specs.declared.tokens.Token.{Token}
use Rattle.lotos_lexer.specs.declared.kinds.TheConstants as kind
use Rattle.lotos_rows.specs.Row.{row_of}
use Rattle.lotos_rows.specs.declared.behaviours.TheConstants as behaviours
use Rattle.lotos_rows.specs.declared.definitions.TheConstants as definitions
use Rattle.lotos_rows.specs.declared.names.TheConstants as names
use Rattle.lotos_rows.specs.declared.types.TheConstants as types
use Rattle.lotos_rows.specs.declared.definitions.DefinitionsRow.TheVariants as row
use Rattle.lotos_rows.specs.declared.row_names.RowName.TheVariants.{Definitions}
use Rattle.ll_engine.specs.declared.symbol.Symbol.TheVariants.{Token as Tok, Part}
use Rattle.lotos_rows.specs.Words.{IsOfKind}
use Rattle.tree_building.specs.Meaning.{Meaning}
use Rattle.tree_building.specs.RowMeaning.{definitions_row_means}
use Rattle.tree_building.specs.Sentences.{Derived}
use Rattle.tree_building.proofs.DerivedBy.{derived_by}

module _ (text : List ℕ) where
  abbrev D : ℕ → List Token → Meaning → Type 0
  D = Derived text

  pub by_heading : {o1 o2 o3 o4 : List Token} {m1 m2 m3 m4 value : Meaning} {t1 : Token} → D names.NAME o1 m1 →
      D names.OPTIONAL_GATES o2 m2 → D definitions.PARAMETERS o3 m3 → IsOfKind kind.COLON t1 → D definitions.FUNCTIONALITY o4 m4 →
      definitions_row_means row.Heading None (m1 ∷ m2 ∷ m3 ∷ m4 ∷ []) ≡ Some value →
      D definitions.HEADING (o1 ++ (o2 ++ (o3 ++ (t1 ∷ o4)))) value
  by_heading {o1 = o1} {o2 = o2} {o3 = o3} {o4 = o4} {m1 = m1} {m2 = m2} {m3 = m3} {m4 = m4} {value = value} {t1 = t1} d1 d2 d3 i1 d4
      given =
      subst (λ (l : List Token). D definitions.HEADING (o1 ++ (o2 ++ (o3 ++ (t1 ∷ l)))) value) (append-nil o4)
      (derived_by text 133
      (row_of (Definitions row.Heading) definitions.HEADING
      (Part names.NAME ∷ Part names.OPTIONAL_GATES ∷ Part definitions.PARAMETERS ∷ Tok kind.COLON ∷ Part definitions.FUNCTIONALITY ∷
      [])) refl (part d1 (part d2 (part d3 (token t1 i1.kind_is (part d4 nothing))))) given)

  pub by_no_parameters : {value : Meaning} → definitions_row_means row.NoParameters None ([]) ≡ Some value →
      D definitions.PARAMETERS ([]) value
  by_no_parameters given = derived_by text 134 (row_of (Definitions row.NoParameters) definitions.PARAMETERS ([])) refl nothing given

  pub by_parameters : {t1 t2 : Token} {o1 : List Token} {m1 value : Meaning} → IsOfKind kind.LEFT_PARENTHESIS t1 → D names.VARIABLES o1 m1 →
      IsOfKind kind.RIGHT_PARENTHESIS t2 → definitions_row_means row.Parameters (Some t1) (m1 ∷ []) ≡ Some value →
      D definitions.PARAMETERS (t1 ∷ (o1 ++ (t2 ∷ []))) value
  by_parameters {t1 = t1} {t2 = t2} i1 d1 i2 given =
      derived_by text 135
      (row_of (Definitions row.Parameters) definitions.PARAMETERS
      (Tok kind.LEFT_PARENTHESIS ∷ Part names.VARIABLES ∷ Tok kind.RIGHT_PARENTHESIS ∷ [])) refl
      (token t1 i1.kind_is (part d1 (token t2 i2.kind_is nothing))) given

  pub by_no_exit : {t1 : Token} {value : Meaning} → IsOfKind kind.NOEXIT t1 → definitions_row_means row.NoExit None ([]) ≡ Some value →
      D definitions.FUNCTIONALITY (t1 ∷ []) value
  by_no_exit {t1 = t1} i1 given =
      derived_by text 136 (row_of (Definitions row.NoExit) definitions.FUNCTIONALITY (Tok kind.NOEXIT ∷ [])) refl
      (token t1 i1.kind_is nothing) given

  pub by_exit_functionality : {t1 : Token} {o1 : List Token} {m1 value : Meaning} → IsOfKind kind.EXIT t1 → D definitions.EXIT_SORTS o1 m1 →
      definitions_row_means row.ExitFunctionality (Some t1) (m1 ∷ []) ≡ Some value → D definitions.FUNCTIONALITY (t1 ∷ o1) value
  by_exit_functionality {t1 = t1} {o1 = o1} {m1 = m1} {value = value} i1 d1 given =
      subst (λ (l : List Token). D definitions.FUNCTIONALITY (t1 ∷ l) value) (append-nil o1)
      (derived_by text 137
      (row_of (Definitions row.ExitFunctionality) definitions.FUNCTIONALITY (Tok kind.EXIT ∷ Part definitions.EXIT_SORTS ∷ [])) refl
      (token t1 i1.kind_is (part d1 nothing)) given)

  pub by_no_exit_sorts : {value : Meaning} → definitions_row_means row.NoExitSorts None ([]) ≡ Some value →
      D definitions.EXIT_SORTS ([]) value
  by_no_exit_sorts given = derived_by text 138 (row_of (Definitions row.NoExitSorts) definitions.EXIT_SORTS ([])) refl nothing given

  pub by_exit_sorts : {t1 t2 : Token} {o1 : List Token} {m1 value : Meaning} → IsOfKind kind.LEFT_PARENTHESIS t1 → D names.NAMES o1 m1 →
      IsOfKind kind.RIGHT_PARENTHESIS t2 → definitions_row_means row.ExitSorts (Some t1) (m1 ∷ []) ≡ Some value →
      D definitions.EXIT_SORTS (t1 ∷ (o1 ++ (t2 ∷ []))) value
  by_exit_sorts {t1 = t1} {t2 = t2} i1 d1 i2 given =
      derived_by text 139
      (row_of (Definitions row.ExitSorts) definitions.EXIT_SORTS
      (Tok kind.LEFT_PARENTHESIS ∷ Part names.NAMES ∷ Tok kind.RIGHT_PARENTHESIS ∷ [])) refl
      (token t1 i1.kind_is (part d1 (token t2 i2.kind_is nothing))) given

  pub by_no_where : {value : Meaning} → definitions_row_means row.NoWhere None ([]) ≡ Some value → D definitions.WHERE ([]) value
  by_no_where given = derived_by text 140 (row_of (Definitions row.NoWhere) definitions.WHERE ([])) refl nothing given

  pub by_where : {t1 : Token} {o1 : List Token} {m1 value : Meaning} → IsOfKind kind.WHERE t1 → D definitions.INNER o1 m1 →
      definitions_row_means row.Where None (m1 ∷ []) ≡ Some value → D definitions.WHERE (t1 ∷ o1) value
  by_where {t1 = t1} {o1 = o1} {m1 = m1} {value = value} i1 d1 given =
      subst (λ (l : List Token). D definitions.WHERE (t1 ∷ l) value) (append-nil o1)
      (derived_by text 141 (row_of (Definitions row.Where) definitions.WHERE (Tok kind.WHERE ∷ Part definitions.INNER ∷ [])) refl
      (token t1 i1.kind_is (part d1 nothing)) given)

  pub by_nothing_inner : {value : Meaning} → definitions_row_means row.NothingInner None ([]) ≡ Some value → D definitions.INNER ([]) value
  by_nothing_inner given = derived_by text 142 (row_of (Definitions row.NothingInner) definitions.INNER ([])) refl nothing given

  pub by_inner_item : {o1 o2 : List Token} {m1 m2 value : Meaning} → D types.ITEM o1 m1 → D definitions.INNER o2 m2 →
      definitions_row_means row.InnerItem None (m1 ∷ m2 ∷ []) ≡ Some value → D definitions.INNER (o1 ++ o2) value
  by_inner_item {o1 = o1} {o2 = o2} {m1 = m1} {m2 = m2} {value = value} d1 d2 given =
      subst (λ (l : List Token). D definitions.INNER (o1 ++ l) value) (append-nil o2)
      (derived_by text 143 (row_of (Definitions row.InnerItem) definitions.INNER (Part types.ITEM ∷ Part definitions.INNER ∷ [])) refl
      (part d1 (part d2 nothing)) given)

  pub by_inner_process : {o1 o2 : List Token} {m1 m2 value : Meaning} → D definitions.PROCESS o1 m1 → D definitions.INNER o2 m2 →
      definitions_row_means row.InnerProcess None (m1 ∷ m2 ∷ []) ≡ Some value → D definitions.INNER (o1 ++ o2) value
  by_inner_process {o1 = o1} {o2 = o2} {m1 = m1} {m2 = m2} {value = value} d1 d2 given =
      subst (λ (l : List Token). D definitions.INNER (o1 ++ l) value) (append-nil o2)
      (derived_by text 144
      (row_of (Definitions row.InnerProcess) definitions.INNER (Part definitions.PROCESS ∷ Part definitions.INNER ∷ [])) refl
      (part d1 (part d2 nothing)) given)

  pub by_process : {t1 t2 t3 : Token} {o1 o2 o3 : List Token} {m1 m2 m3 value : Meaning} → IsOfKind kind.PROCESS t1 →
      D definitions.HEADING o1 m1 → IsOfKind kind.DEFINITION t2 → D behaviours.BEHAVIOUR o2 m2 → D definitions.WHERE o3 m3 →
      IsOfKind kind.ENDPROC t3 → definitions_row_means row.Process None (m1 ∷ m2 ∷ m3 ∷ []) ≡ Some value →
      D definitions.PROCESS (t1 ∷ (o1 ++ (t2 ∷ (o2 ++ (o3 ++ (t3 ∷ [])))))) value
  by_process {t1 = t1} {t2 = t2} {t3 = t3} i1 d1 i2 d2 d3 i3 given =
      derived_by text 145
      (row_of (Definitions row.Process) definitions.PROCESS
      (Tok kind.PROCESS ∷ Part definitions.HEADING ∷ Tok kind.DEFINITION ∷ Part behaviours.BEHAVIOUR ∷ Part definitions.WHERE ∷ Tok
      kind.ENDPROC ∷ [])) refl (token t1 i1.kind_is (part d1 (token t2 i2.kind_is (part d2 (part d3 (token t3 i3.kind_is nothing)))))) given
