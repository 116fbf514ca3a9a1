-- A derivation by each row of this subject: types.
use Rattle.std.proofs.Common.{◌≡◌, ℕ, List, [], ◌∷◌, ◌++◌, refl, subst}
use Rattle.std.specs.Prelude.{Some, None}
use Rattle.std.proofs.lemmas.List.{append-nil}
use Rattle.ll_engine.specs.Values.{nothing, token, part}
use Rattle.lotos_lexer.specs.declared.tokens.Token.{Token}
use Rattle.lotos_lexer.specs.declared.kinds.TheConstants as kind
use Rattle.lotos_rows.specs.Row.{row_of}
use Rattle.lotos_rows.specs.declared.equations.TheConstants as equations
use Rattle.lotos_rows.specs.declared.names.TheConstants as names
use Rattle.lotos_rows.specs.declared.renamings.TheConstants as renamings
use Rattle.lotos_rows.specs.declared.types.TheConstants as types
use Rattle.lotos_rows.specs.declared.types.TypesRow.TheVariants as row
use Rattle.lotos_rows.specs.declared.row_names.RowName.TheVariants.{Types}
use Rattle.ll_engine.specs.declared.symbol.Symbol.TheVariants.{Token as Tok, Part}
use Rattle.lotos_rows.specs.Words.{IsOfKind}
use Rattle.tree_building.specs.Meaning.{Meaning}
use Rattle.tree_building.specs.RowMeaning.{types_row_means}
use Rattle.tree_building.specs.Sentences.{Derived}
use Rattle.tree_building.proofs.DerivedBy.{derived_by}

module _ (text : List ℕ) where
  abbrev D : ℕ → List Token → Meaning → Type 0
  D = Derived text

  pub by_library_item : {t1 t2 : Token} {o1 : List Token} {m1 value : Meaning} → IsOfKind kind.LIBRARY t1 → D names.NAMES o1 m1 →
      IsOfKind kind.ENDLIB t2 → types_row_means row.LibraryItem (Some t1) (m1 ∷ []) ≡ Some value
      → D types.ITEM (t1 ∷ (o1 ++ (t2 ∷ []))) value
  by_library_item {t1 = t1} {t2 = t2} i1 d1 i2 given =
      derived_by text 34 (row_of (Types row.LibraryItem) types.ITEM (Tok kind.LIBRARY ∷ Part names.NAMES ∷ Tok kind.ENDLIB ∷ [])) refl
      (token t1 i1.kind_is (part d1 (token t2 i2.kind_is nothing))) given

  pub by_type_item : {t1 t2 t3 : Token} {o1 o2 : List Token} {m1 m2 value : Meaning} → IsOfKind kind.TYPE t1 → D names.NAME o1 m1 →
      IsOfKind kind.IS t2 → D types.BODY o2 m2 → IsOfKind kind.ENDTYPE t3 → types_row_means row.TypeItem None (m1 ∷ m2 ∷ []) ≡ Some value →
      D types.ITEM (t1 ∷ (o1 ++ (t2 ∷ (o2 ++ (t3 ∷ []))))) value
  by_type_item {t1 = t1} {t2 = t2} {t3 = t3} i1 d1 i2 d2 i3 given =
      derived_by text 35
      (row_of (Types row.TypeItem) types.ITEM (Tok kind.TYPE ∷ Part names.NAME ∷ Tok kind.IS ∷ Part types.BODY ∷ Tok kind.ENDTYPE ∷ []))
      refl (token t1 i1.kind_is (part d1 (token t2 i2.kind_is (part d2 (token t3 i3.kind_is nothing))))) given

  pub by_named_body : {o1 o2 : List Token} {m1 m2 value : Meaning} → D names.NAME o1 m1 → D types.AFTER_BASE o2 m2 →
      types_row_means row.NamedBody None (m1 ∷ m2 ∷ []) ≡ Some value → D types.BODY (o1 ++ o2) value
  by_named_body {o1 = o1} {o2 = o2} {m1 = m1} {m2 = m2} {value = value} d1 d2 given =
      subst (λ (l : List Token). D types.BODY (o1 ++ l) value) (append-nil o2)
      (derived_by text 36 (row_of (Types row.NamedBody) types.BODY (Part names.NAME ∷ Part types.AFTER_BASE ∷ [])) refl
      (part d1 (part d2 nothing)) given)

  pub by_sections_body : {o1 : List Token} {m1 value : Meaning} → D types.SECTIONS o1 m1 →
      types_row_means row.SectionsBody None (m1 ∷ []) ≡ Some value → D types.BODY (o1) value
  by_sections_body {o1 = o1} {m1 = m1} {value = value} d1 given =
      subst (λ (l : List Token). D types.BODY (l) value) (append-nil o1)
      (derived_by text 37 (row_of (Types row.SectionsBody) types.BODY (Part types.SECTIONS ∷ [])) refl (part d1 nothing) given)

  pub by_renaming : {t1 : Token} {o1 : List Token} {m1 value : Meaning} → IsOfKind kind.RENAMEDBY t1 → D renamings.RENAMES o1 m1 →
      types_row_means row.Renaming None (m1 ∷ []) ≡ Some value → D types.AFTER_BASE (t1 ∷ o1) value
  by_renaming {t1 = t1} {o1 = o1} {m1 = m1} {value = value} i1 d1 given =
      subst (λ (l : List Token). D types.AFTER_BASE (t1 ∷ l) value) (append-nil o1)
      (derived_by text 38 (row_of (Types row.Renaming) types.AFTER_BASE (Tok kind.RENAMEDBY ∷ Part renamings.RENAMES ∷ [])) refl
      (token t1 i1.kind_is (part d1 nothing)) given)

  pub by_actualisation : {t1 t2 : Token} {o1 o2 : List Token} {m1 m2 value : Meaning} → IsOfKind kind.ACTUALIZEDBY t1
      → D names.NAMES o1 m1 →
      IsOfKind kind.USING t2 → D renamings.RENAMES o2 m2 → types_row_means row.Actualisation None (m1 ∷ m2 ∷ []) ≡ Some value →
      D types.AFTER_BASE (t1 ∷ (o1 ++ (t2 ∷ o2))) value
  by_actualisation {t1 = t1} {t2 = t2} {o1 = o1} {o2 = o2} {m1 = m1} {m2 = m2} {value = value} i1 d1 i2 d2 given =
      subst (λ (l : List Token). D types.AFTER_BASE (t1 ∷ (o1 ++ (t2 ∷ l))) value) (append-nil o2)
      (derived_by text 39
      (row_of (Types row.Actualisation) types.AFTER_BASE
      (Tok kind.ACTUALIZEDBY ∷ Part names.NAMES ∷ Tok kind.USING ∷ Part renamings.RENAMES ∷ [])) refl
      (token t1 i1.kind_is (part d1 (token t2 i2.kind_is (part d2 nothing)))) given)

  pub by_extension : {o1 o2 : List Token} {m1 m2 value : Meaning} → D names.MORE_NAMES o1 m1 → D types.SECTIONS o2 m2 →
      types_row_means row.Extension None (m1 ∷ m2 ∷ []) ≡ Some value → D types.AFTER_BASE (o1 ++ o2) value
  by_extension {o1 = o1} {o2 = o2} {m1 = m1} {m2 = m2} {value = value} d1 d2 given =
      subst (λ (l : List Token). D types.AFTER_BASE (o1 ++ l) value) (append-nil o2)
      (derived_by text 40 (row_of (Types row.Extension) types.AFTER_BASE (Part names.MORE_NAMES ∷ Part types.SECTIONS ∷ [])) refl
      (part d1 (part d2 nothing)) given)

  pub by_sections : {o1 o2 o3 o4 o5 o6 : List Token} {m1 m2 m3 m4 m5 m6 value : Meaning} → D types.FORMAL_SORTS o1 m1 →
      D types.FORMAL_OPERATIONS o2 m2 → D types.FORMAL_EQUATIONS o3 m3 → D types.SORTS o4 m4 → D types.OPERATIONS o5 m5 →
      D types.EQUATIONS o6 m6 → types_row_means row.Sections None (m1 ∷ m2 ∷ m3 ∷ m4 ∷ m5 ∷ m6 ∷ []) ≡ Some value →
      D types.SECTIONS (o1 ++ (o2 ++ (o3 ++ (o4 ++ (o5 ++ o6))))) value
  by_sections {o1 = o1} {o2 = o2} {o3 = o3} {o4 = o4} {o5 = o5} {o6 = o6} {m1 = m1} {m2 = m2} {m3 = m3} {m4 = m4} {m5 = m5} {m6 = m6}
      {value = value} d1 d2 d3 d4 d5 d6 given =
      subst (λ (l : List Token). D types.SECTIONS (o1 ++ (o2 ++ (o3 ++ (o4 ++ (o5 ++ l))))) value) (append-nil o6)
      (derived_by text 41
      (row_of (Types row.Sections) types.SECTIONS
      (Part types.FORMAL_SORTS ∷ Part types.FORMAL_OPERATIONS ∷ Part types.FORMAL_EQUATIONS ∷ Part types.SORTS ∷ Part types.OPERATIONS
      ∷ Part types.EQUATIONS ∷ [])) refl (part d1 (part d2 (part d3 (part d4 (part d5 (part d6 nothing)))))) given)

  pub by_no_formal_sorts : {value : Meaning} → types_row_means row.NoFormalSorts None ([]) ≡ Some value → D types.FORMAL_SORTS ([]) value
  by_no_formal_sorts given = derived_by text 42 (row_of (Types row.NoFormalSorts) types.FORMAL_SORTS ([])) refl nothing given

  pub by_formal_sorts : {t1 : Token} {o1 : List Token} {m1 value : Meaning} → IsOfKind kind.FORMALSORTS t1 → D names.LOOSE_NAMES o1 m1 →
      types_row_means row.FormalSorts None (m1 ∷ []) ≡ Some value → D types.FORMAL_SORTS (t1 ∷ o1) value
  by_formal_sorts {t1 = t1} {o1 = o1} {m1 = m1} {value = value} i1 d1 given =
      subst (λ (l : List Token). D types.FORMAL_SORTS (t1 ∷ l) value) (append-nil o1)
      (derived_by text 43 (row_of (Types row.FormalSorts) types.FORMAL_SORTS (Tok kind.FORMALSORTS ∷ Part names.LOOSE_NAMES ∷ []))
      refl (token t1 i1.kind_is (part d1 nothing)) given)

  pub by_no_formal_operations : {value : Meaning} → types_row_means row.NoFormalOperations None ([]) ≡ Some value →
      D types.FORMAL_OPERATIONS ([]) value
  by_no_formal_operations given = derived_by text 44 (row_of (Types row.NoFormalOperations) types.FORMAL_OPERATIONS ([])) refl nothing given

  pub by_formal_operations : {t1 : Token} {o1 : List Token} {m1 value : Meaning} → IsOfKind kind.FORMALOPNS t1 →
      D types.OPERATION_LINES o1 m1 → types_row_means row.FormalOperations None (m1 ∷ []) ≡ Some value →
      D types.FORMAL_OPERATIONS (t1 ∷ o1) value
  by_formal_operations {t1 = t1} {o1 = o1} {m1 = m1} {value = value} i1 d1 given =
      subst (λ (l : List Token). D types.FORMAL_OPERATIONS (t1 ∷ l) value) (append-nil o1)
      (derived_by text 45
      (row_of (Types row.FormalOperations) types.FORMAL_OPERATIONS (Tok kind.FORMALOPNS ∷ Part types.OPERATION_LINES ∷ [])) refl
      (token t1 i1.kind_is (part d1 nothing)) given)

  pub by_no_formal_equations : {value : Meaning} → types_row_means row.NoFormalEquations None ([]) ≡ Some value →
      D types.FORMAL_EQUATIONS ([]) value
  by_no_formal_equations given = derived_by text 46 (row_of (Types row.NoFormalEquations) types.FORMAL_EQUATIONS ([])) refl nothing given

  pub by_formal_equations : {t1 : Token} {o1 o2 : List Token} {m1 m2 value : Meaning} → IsOfKind kind.FORMALEQNS t1 →
      D equations.VARIABLES_FOR_ALL o1 m1 → D equations.EQUATION_GROUPS o2 m2 →
      types_row_means row.FormalEquations None (m1 ∷ m2 ∷ []) ≡ Some value → D types.FORMAL_EQUATIONS (t1 ∷ (o1 ++ o2)) value
  by_formal_equations {t1 = t1} {o1 = o1} {o2 = o2} {m1 = m1} {m2 = m2} {value = value} i1 d1 d2 given =
      subst (λ (l : List Token). D types.FORMAL_EQUATIONS (t1 ∷ (o1 ++ l)) value) (append-nil o2)
      (derived_by text 47
      (row_of (Types row.FormalEquations) types.FORMAL_EQUATIONS
      (Tok kind.FORMALEQNS ∷ Part equations.VARIABLES_FOR_ALL ∷ Part equations.EQUATION_GROUPS ∷ [])) refl
      (token t1 i1.kind_is (part d1 (part d2 nothing))) given)

  pub by_no_sorts : {value : Meaning} → types_row_means row.NoSorts None ([]) ≡ Some value → D types.SORTS ([]) value
  by_no_sorts given = derived_by text 48 (row_of (Types row.NoSorts) types.SORTS ([])) refl nothing given

  pub by_sorts : {t1 : Token} {o1 : List Token} {m1 value : Meaning} → IsOfKind kind.SORTS t1 → D names.LOOSE_NAMES o1 m1 →
      types_row_means row.Sorts None (m1 ∷ []) ≡ Some value → D types.SORTS (t1 ∷ o1) value
  by_sorts {t1 = t1} {o1 = o1} {m1 = m1} {value = value} i1 d1 given =
      subst (λ (l : List Token). D types.SORTS (t1 ∷ l) value) (append-nil o1)
      (derived_by text 49 (row_of (Types row.Sorts) types.SORTS (Tok kind.SORTS ∷ Part names.LOOSE_NAMES ∷ [])) refl
      (token t1 i1.kind_is (part d1 nothing)) given)

  pub by_no_operations : {value : Meaning} → types_row_means row.NoOperations None ([]) ≡ Some value → D types.OPERATIONS ([]) value
  by_no_operations given = derived_by text 50 (row_of (Types row.NoOperations) types.OPERATIONS ([])) refl nothing given

  pub by_operations : {t1 : Token} {o1 : List Token} {m1 value : Meaning} → IsOfKind kind.OPNS t1 → D types.OPERATION_LINES o1 m1 →
      types_row_means row.Operations None (m1 ∷ []) ≡ Some value → D types.OPERATIONS (t1 ∷ o1) value
  by_operations {t1 = t1} {o1 = o1} {m1 = m1} {value = value} i1 d1 given =
      subst (λ (l : List Token). D types.OPERATIONS (t1 ∷ l) value) (append-nil o1)
      (derived_by text 51 (row_of (Types row.Operations) types.OPERATIONS (Tok kind.OPNS ∷ Part types.OPERATION_LINES ∷ [])) refl
      (token t1 i1.kind_is (part d1 nothing)) given)

  pub by_no_equations : {value : Meaning} → types_row_means row.NoEquations None ([]) ≡ Some value → D types.EQUATIONS ([]) value
  by_no_equations given = derived_by text 52 (row_of (Types row.NoEquations) types.EQUATIONS ([])) refl nothing given

  pub by_equations : {t1 : Token} {o1 o2 : List Token} {m1 m2 value : Meaning} → IsOfKind kind.EQNS t1
      → D equations.VARIABLES_FOR_ALL o1 m1 →
      D equations.EQUATION_GROUPS o2 m2 → types_row_means row.Equations None (m1 ∷ m2 ∷ []) ≡ Some value →
      D types.EQUATIONS (t1 ∷ (o1 ++ o2)) value
  by_equations {t1 = t1} {o1 = o1} {o2 = o2} {m1 = m1} {m2 = m2} {value = value} i1 d1 d2 given =
      subst (λ (l : List Token). D types.EQUATIONS (t1 ∷ (o1 ++ l)) value) (append-nil o2)
      (derived_by text 53
      (row_of (Types row.Equations) types.EQUATIONS
      (Tok kind.EQNS ∷ Part equations.VARIABLES_FOR_ALL ∷ Part equations.EQUATION_GROUPS ∷ [])) refl
      (token t1 i1.kind_is (part d1 (part d2 nothing))) given)

  pub by_no_operation_lines : {value : Meaning} → types_row_means row.NoOperationLines None ([]) ≡ Some value →
      D types.OPERATION_LINES ([]) value
  by_no_operation_lines given = derived_by text 54 (row_of (Types row.NoOperationLines) types.OPERATION_LINES ([])) refl nothing given

  pub by_operation_lines : {o1 o2 o3 o4 : List Token} {m1 m2 m3 m4 value : Meaning} → D names.OPERATION o1 m1 →
      D types.MORE_OPERATIONS o2 m2 → D names.PROFILE o3 m3 → D types.OPERATION_LINES o4 m4 →
      types_row_means row.OperationLines None (m1 ∷ m2 ∷ m3 ∷ m4 ∷ []) ≡ Some value →
      D types.OPERATION_LINES (o1 ++ (o2 ++ (o3 ++ o4))) value
  by_operation_lines {o1 = o1} {o2 = o2} {o3 = o3} {o4 = o4} {m1 = m1} {m2 = m2} {m3 = m3} {m4 = m4} {value = value} d1 d2 d3 d4 given =
      subst (λ (l : List Token). D types.OPERATION_LINES (o1 ++ (o2 ++ (o3 ++ l))) value) (append-nil o4)
      (derived_by text 55
      (row_of (Types row.OperationLines) types.OPERATION_LINES
      (Part names.OPERATION ∷ Part types.MORE_OPERATIONS ∷ Part names.PROFILE ∷ Part types.OPERATION_LINES ∷ [])) refl
      (part d1 (part d2 (part d3 (part d4 nothing)))) given)

  pub by_no_more_operations : {value : Meaning} → types_row_means row.NoMoreOperations None ([]) ≡ Some value →
      D types.MORE_OPERATIONS ([]) value
  by_no_more_operations given = derived_by text 56 (row_of (Types row.NoMoreOperations) types.MORE_OPERATIONS ([])) refl nothing given

  pub by_more_operations : {t1 : Token} {o1 o2 : List Token} {m1 m2 value : Meaning} → IsOfKind kind.COMMA t1 → D names.OPERATION o1 m1 →
      D types.MORE_OPERATIONS o2 m2 → types_row_means row.MoreOperations None (m1 ∷ m2 ∷ []) ≡ Some value →
      D types.MORE_OPERATIONS (t1 ∷ (o1 ++ o2)) value
  by_more_operations {t1 = t1} {o1 = o1} {o2 = o2} {m1 = m1} {m2 = m2} {value = value} i1 d1 d2 given =
      subst (λ (l : List Token). D types.MORE_OPERATIONS (t1 ∷ (o1 ++ l)) value) (append-nil o2)
      (derived_by text 57
      (row_of (Types row.MoreOperations) types.MORE_OPERATIONS
      (Tok kind.COMMA ∷ Part names.OPERATION ∷ Part types.MORE_OPERATIONS ∷ [])) refl
      (token t1 i1.kind_is (part d1 (part d2 nothing))) given)
