-- A derivation by each row of this subject: equations.
use Rattle.std.proofs.Common.{◌≡◌, ℕ, List, [], ◌∷◌, ◌++◌, refl, subst}
use Rattle.std.specs.Prelude.{Some, None}
use Rattle.std.proofs.lemmas.List.{append-nil}
use Rattle.ll_engine.specs.Values.{nothing, token, part}
use Rattle.lotos_lexer.specs.declared.tokens.Token.{Token}
use Rattle.lotos_lexer.specs.declared.kinds.TheConstants as kind
use Rattle.lotos_rows.specs.Row.{row_of}
use Rattle.lotos_rows.specs.declared.equations.TheConstants as equations
use Rattle.lotos_rows.specs.declared.names.TheConstants as names
use Rattle.lotos_rows.specs.declared.terms.TheConstants as terms
use Rattle.lotos_rows.specs.declared.equations.EquationsRow.TheVariants as row
use Rattle.lotos_rows.specs.declared.row_names.RowName.TheVariants.{Equations}
use Rattle.ll_engine.specs.declared.symbol.Symbol.TheVariants.{Token as Tok, Part}
use Rattle.lotos_rows.specs.Words.{IsOfKind}
use Rattle.tree_building.specs.Meaning.{Meaning}
use Rattle.tree_building.specs.RowMeaning.{equations_row_means}
use Rattle.tree_building.specs.Sentences.{Derived}
use Rattle.tree_building.proofs.DerivedBy.{derived_by}

module _ (text : List ℕ) where
  abbrev D : ℕ → List Token → Meaning → Type 0
  D = Derived text

  pub by_no_variables_for_all : {value : Meaning} → equations_row_means row.NoVariablesForAll None ([]) ≡ Some value →
      D equations.VARIABLES_FOR_ALL ([]) value
  by_no_variables_for_all given =
      derived_by text 58 (row_of (Equations row.NoVariablesForAll) equations.VARIABLES_FOR_ALL ([])) refl nothing given

  pub by_variables_for_all : {t1 : Token} {o1 : List Token} {m1 value : Meaning} → IsOfKind kind.FORALL t1 → D names.VARIABLES o1 m1 →
      equations_row_means row.VariablesForAll None (m1 ∷ []) ≡ Some value → D equations.VARIABLES_FOR_ALL (t1 ∷ o1) value
  by_variables_for_all {t1 = t1} {o1 = o1} {m1 = m1} {value = value} i1 d1 given =
      subst (λ (l : List Token). D equations.VARIABLES_FOR_ALL (t1 ∷ l) value) (append-nil o1)
      (derived_by text 59
      (row_of (Equations row.VariablesForAll) equations.VARIABLES_FOR_ALL (Tok kind.FORALL ∷ Part names.VARIABLES ∷ [])) refl
      (token t1 i1.kind_is (part d1 nothing)) given)

  pub by_no_equation_groups : {value : Meaning} → equations_row_means row.NoEquationGroups None ([]) ≡ Some value →
      D equations.EQUATION_GROUPS ([]) value
  by_no_equation_groups given =
      derived_by text 60 (row_of (Equations row.NoEquationGroups) equations.EQUATION_GROUPS ([])) refl nothing given

  pub by_equation_groups : {t1 : Token} {o1 o2 o3 o4 : List Token} {m1 m2 m3 m4 value : Meaning} → IsOfKind kind.OFSORT t1 →
      D names.NAME o1 m1 → D equations.VARIABLES_FOR_ALL o2 m2 → D equations.EQUATION_LIST o3 m3 → D equations.EQUATION_GROUPS o4 m4 →
      equations_row_means row.EquationGroups None (m1 ∷ m2 ∷ m3 ∷ m4 ∷ []) ≡ Some value →
      D equations.EQUATION_GROUPS (t1 ∷ (o1 ++ (o2 ++ (o3 ++ o4)))) value
  by_equation_groups {t1 = t1} {o1 = o1} {o2 = o2} {o3 = o3} {o4 = o4} {m1 = m1} {m2 = m2} {m3 = m3} {m4 = m4} {value = value} i1 d1 d2 d3
      d4 given =
      subst (λ (l : List Token). D equations.EQUATION_GROUPS (t1 ∷ (o1 ++ (o2 ++ (o3 ++ l)))) value) (append-nil o4)
      (derived_by text 61
      (row_of (Equations row.EquationGroups) equations.EQUATION_GROUPS
      (Tok kind.OFSORT ∷ Part names.NAME ∷ Part equations.VARIABLES_FOR_ALL ∷ Part equations.EQUATION_LIST ∷ Part
      equations.EQUATION_GROUPS ∷ [])) refl (token t1 i1.kind_is (part d1 (part d2 (part d3 (part d4 nothing))))) given)

  pub by_no_equation_list : {value : Meaning} → equations_row_means row.NoEquationList None ([]) ≡ Some value →
      D equations.EQUATION_LIST ([]) value
  by_no_equation_list given = derived_by text 62 (row_of (Equations row.NoEquationList) equations.EQUATION_LIST ([])) refl nothing given

  pub by_equation_list : {o1 o2 : List Token} {m1 m2 value : Meaning} → D equations.EQUATION o1 m1 → D equations.AFTER_EQUATION o2 m2 →
      equations_row_means row.EquationList None (m1 ∷ m2 ∷ []) ≡ Some value → D equations.EQUATION_LIST (o1 ++ o2) value
  by_equation_list {o1 = o1} {o2 = o2} {m1 = m1} {m2 = m2} {value = value} d1 d2 given =
      subst (λ (l : List Token). D equations.EQUATION_LIST (o1 ++ l) value) (append-nil o2)
      (derived_by text 63
      (row_of (Equations row.EquationList) equations.EQUATION_LIST (Part equations.EQUATION ∷ Part equations.AFTER_EQUATION ∷ []))
      refl (part d1 (part d2 nothing)) given)

  pub by_no_after_equation : {value : Meaning} → equations_row_means row.NoAfterEquation None ([]) ≡ Some value →
      D equations.AFTER_EQUATION ([]) value
  by_no_after_equation given = derived_by text 64 (row_of (Equations row.NoAfterEquation) equations.AFTER_EQUATION ([])) refl nothing given

  pub by_after_equation : {t1 : Token} {o1 : List Token} {m1 value : Meaning} → IsOfKind kind.SEMICOLON t1
      → D equations.EQUATION_LIST o1 m1 →
      equations_row_means row.AfterEquation None (m1 ∷ []) ≡ Some value → D equations.AFTER_EQUATION (t1 ∷ o1) value
  by_after_equation {t1 = t1} {o1 = o1} {m1 = m1} {value = value} i1 d1 given =
      subst (λ (l : List Token). D equations.AFTER_EQUATION (t1 ∷ l) value) (append-nil o1)
      (derived_by text 65
      (row_of (Equations row.AfterEquation) equations.AFTER_EQUATION (Tok kind.SEMICOLON ∷ Part equations.EQUATION_LIST ∷ [])) refl
      (token t1 i1.kind_is (part d1 nothing)) given)

  pub by_equation : {o1 o2 : List Token} {m1 m2 value : Meaning} → D terms.TERM o1 m1 → D equations.AFTER_FIRST_TERM o2 m2 →
      equations_row_means row.Equation None (m1 ∷ m2 ∷ []) ≡ Some value → D equations.EQUATION (o1 ++ o2) value
  by_equation {o1 = o1} {o2 = o2} {m1 = m1} {m2 = m2} {value = value} d1 d2 given =
      subst (λ (l : List Token). D equations.EQUATION (o1 ++ l) value) (append-nil o2)
      (derived_by text 66
      (row_of (Equations row.Equation) equations.EQUATION (Part terms.TERM ∷ Part equations.AFTER_FIRST_TERM ∷ [])) refl
      (part d1 (part d2 nothing)) given)

  pub by_equals_after_term : {t1 : Token} {o1 o2 : List Token} {m1 m2 value : Meaning} → IsOfKind kind.EQUALS t1 → D terms.TERM o1 m1 →
      D equations.AFTER_FIRST_PAIR o2 m2 → equations_row_means row.EqualsAfterTerm None (m1 ∷ m2 ∷ []) ≡ Some value →
      D equations.AFTER_FIRST_TERM (t1 ∷ (o1 ++ o2)) value
  by_equals_after_term {t1 = t1} {o1 = o1} {o2 = o2} {m1 = m1} {m2 = m2} {value = value} i1 d1 d2 given =
      subst (λ (l : List Token). D equations.AFTER_FIRST_TERM (t1 ∷ (o1 ++ l)) value) (append-nil o2)
      (derived_by text 67
      (row_of (Equations row.EqualsAfterTerm) equations.AFTER_FIRST_TERM
      (Tok kind.EQUALS ∷ Part terms.TERM ∷ Part equations.AFTER_FIRST_PAIR ∷ [])) refl
      (token t1 i1.kind_is (part d1 (part d2 nothing))) given)

  pub by_conclusion_after_term : {o1 : List Token} {m1 value : Meaning} → D equations.CONCLUSION o1 m1 →
      equations_row_means row.ConclusionAfterTerm None (m1 ∷ []) ≡ Some value → D equations.AFTER_FIRST_TERM (o1) value
  by_conclusion_after_term {o1 = o1} {m1 = m1} {value = value} d1 given =
      subst (λ (l : List Token). D equations.AFTER_FIRST_TERM (l) value) (append-nil o1)
      (derived_by text 68 (row_of (Equations row.ConclusionAfterTerm) equations.AFTER_FIRST_TERM (Part equations.CONCLUSION ∷ []))
      refl (part d1 nothing) given)

  pub by_no_after_first_pair : {value : Meaning} → equations_row_means row.NoAfterFirstPair None ([]) ≡ Some value →
      D equations.AFTER_FIRST_PAIR ([]) value
  by_no_after_first_pair given =
      derived_by text 69 (row_of (Equations row.NoAfterFirstPair) equations.AFTER_FIRST_PAIR ([])) refl nothing given

  pub by_after_first_pair : {o1 : List Token} {m1 value : Meaning} → D equations.CONCLUSION o1 m1 →
      equations_row_means row.AfterFirstPair None (m1 ∷ []) ≡ Some value → D equations.AFTER_FIRST_PAIR (o1) value
  by_after_first_pair {o1 = o1} {m1 = m1} {value = value} d1 given =
      subst (λ (l : List Token). D equations.AFTER_FIRST_PAIR (l) value) (append-nil o1)
      (derived_by text 70 (row_of (Equations row.AfterFirstPair) equations.AFTER_FIRST_PAIR (Part equations.CONCLUSION ∷ [])) refl
      (part d1 nothing) given)

  pub by_premiss_and_conclusion : {t1 : Token} {o1 o2 : List Token} {m1 m2 value : Meaning} → IsOfKind kind.COMMA t1 →
      D equations.PREMISS o1 m1 → D equations.CONCLUSION o2 m2 →
      equations_row_means row.PremissAndConclusion None (m1 ∷ m2 ∷ []) ≡ Some value → D equations.CONCLUSION (t1 ∷ (o1 ++ o2)) value
  by_premiss_and_conclusion {t1 = t1} {o1 = o1} {o2 = o2} {m1 = m1} {m2 = m2} {value = value} i1 d1 d2 given =
      subst (λ (l : List Token). D equations.CONCLUSION (t1 ∷ (o1 ++ l)) value) (append-nil o2)
      (derived_by text 71
      (row_of (Equations row.PremissAndConclusion) equations.CONCLUSION
      (Tok kind.COMMA ∷ Part equations.PREMISS ∷ Part equations.CONCLUSION ∷ [])) refl
      (token t1 i1.kind_is (part d1 (part d2 nothing))) given)

  pub by_conclusion : {t1 t2 : Token} {o1 o2 : List Token} {m1 m2 value : Meaning} → IsOfKind kind.IMPLIES t1 → D terms.TERM o1 m1 →
      IsOfKind kind.EQUALS t2 → D terms.TERM o2 m2 → equations_row_means row.Conclusion (Some t1) (m1 ∷ m2 ∷ []) ≡ Some value →
      D equations.CONCLUSION (t1 ∷ (o1 ++ (t2 ∷ o2))) value
  by_conclusion {t1 = t1} {t2 = t2} {o1 = o1} {o2 = o2} {m1 = m1} {m2 = m2} {value = value} i1 d1 i2 d2 given =
      subst (λ (l : List Token). D equations.CONCLUSION (t1 ∷ (o1 ++ (t2 ∷ l))) value) (append-nil o2)
      (derived_by text 72
      (row_of (Equations row.Conclusion) equations.CONCLUSION
      (Tok kind.IMPLIES ∷ Part terms.TERM ∷ Tok kind.EQUALS ∷ Part terms.TERM ∷ [])) refl
      (token t1 i1.kind_is (part d1 (token t2 i2.kind_is (part d2 nothing)))) given)

  pub by_premiss : {o1 o2 : List Token} {m1 m2 value : Meaning} → D terms.TERM o1 m1 → D equations.PREMISS_RIGHT o2 m2 →
      equations_row_means row.Premiss None (m1 ∷ m2 ∷ []) ≡ Some value → D equations.PREMISS (o1 ++ o2) value
  by_premiss {o1 = o1} {o2 = o2} {m1 = m1} {m2 = m2} {value = value} d1 d2 given =
      subst (λ (l : List Token). D equations.PREMISS (o1 ++ l) value) (append-nil o2)
      (derived_by text 73 (row_of (Equations row.Premiss) equations.PREMISS (Part terms.TERM ∷ Part equations.PREMISS_RIGHT ∷ []))
      refl (part d1 (part d2 nothing)) given)

  pub by_no_premiss_right : {value : Meaning} → equations_row_means row.NoPremissRight None ([]) ≡ Some value →
      D equations.PREMISS_RIGHT ([]) value
  by_no_premiss_right given = derived_by text 74 (row_of (Equations row.NoPremissRight) equations.PREMISS_RIGHT ([])) refl nothing given

  pub by_premiss_right : {t1 : Token} {o1 : List Token} {m1 value : Meaning} → IsOfKind kind.EQUALS t1 → D terms.TERM o1 m1 →
      equations_row_means row.PremissRight None (m1 ∷ []) ≡ Some value → D equations.PREMISS_RIGHT (t1 ∷ o1) value
  by_premiss_right {t1 = t1} {o1 = o1} {m1 = m1} {value = value} i1 d1 given =
      subst (λ (l : List Token). D equations.PREMISS_RIGHT (t1 ∷ l) value) (append-nil o1)
      (derived_by text 75 (row_of (Equations row.PremissRight) equations.PREMISS_RIGHT (Tok kind.EQUALS ∷ Part terms.TERM ∷ [])) refl
      (token t1 i1.kind_is (part d1 nothing)) given)
