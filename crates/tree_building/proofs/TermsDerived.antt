-- A derivation by each row of this subject: terms.
use Rattle.std.proofs.Common.{◌≡◌, ℕ, List, [], ◌∷◌, ◌++◌, refl, subst}
use Rattle.std.specs.Prelude.{Some, None}
use Rattle.std.proofs.lemmas.List.{append-nil}
use Rattle.ll_engine.specs.Values.{nothing, token, part}
use Rattle.lotos_lexer.specs.declared.tokens.Token.{Token}
use Rattle.lotos_lexer.specs.declared.kinds.TheConstants as kind
use Rattle.lotos_rows.specs.Row.{row_of}
use Rattle.lotos_rows.specs.declared.names.TheConstants as names
use Rattle.lotos_rows.specs.declared.terms.TheConstants as terms
use Rattle.lotos_rows.specs.declared.terms.TermsRow.TheVariants as row
use Rattle.lotos_rows.specs.declared.row_names.RowName.TheVariants.{Terms}
use Rattle.ll_engine.specs.declared.symbol.Symbol.TheVariants.{Token as Tok, Part}
use Rattle.lotos_rows.specs.Words.{IsOfKind}
use Rattle.tree_building.specs.Meaning.{Meaning}
use Rattle.tree_building.specs.RowMeaning.{terms_row_means}
use Rattle.tree_building.specs.Sentences.{Derived}
use Rattle.tree_building.proofs.DerivedBy.{derived_by}

module _ (text : List ℕ) where
  abbrev D : ℕ → List Token → Meaning → Type 0
  D = Derived text

  pub by_term : {o1 o2 : List Token} {m1 m2 value : Meaning} → D terms.FACTOR o1 m1 → D terms.MORE_FACTORS o2 m2 →
      terms_row_means row.Term None (m1 ∷ m2 ∷ []) ≡ Some value → D terms.TERM (o1 ++ o2) value
  by_term {o1 = o1} {o2 = o2} {m1 = m1} {m2 = m2} {value = value} d1 d2 given =
      subst (λ (l : List Token). D terms.TERM (o1 ++ l) value) (append-nil o2)
      (derived_by text 22 (row_of (Terms row.Term) terms.TERM (Part terms.FACTOR ∷ Part terms.MORE_FACTORS ∷ [])) refl
      (part d1 (part d2 nothing)) given)

  pub by_no_more_factors : {value : Meaning} → terms_row_means row.NoMoreFactors None ([]) ≡ Some value → D terms.MORE_FACTORS ([]) value
  by_no_more_factors given = derived_by text 23 (row_of (Terms row.NoMoreFactors) terms.MORE_FACTORS ([])) refl nothing given

  pub by_more_factors : {o1 o2 o3 : List Token} {m1 m2 m3 value : Meaning} → D names.OPERATION_NAME o1 m1 → D terms.FACTOR o2 m2 →
      D terms.MORE_FACTORS o3 m3 → terms_row_means row.MoreFactors None (m1 ∷ m2 ∷ m3 ∷ []) ≡ Some value →
      D terms.MORE_FACTORS (o1 ++ (o2 ++ o3)) value
  by_more_factors {o1 = o1} {o2 = o2} {o3 = o3} {m1 = m1} {m2 = m2} {m3 = m3} {value = value} d1 d2 d3 given =
      subst (λ (l : List Token). D terms.MORE_FACTORS (o1 ++ (o2 ++ l)) value) (append-nil o3)
      (derived_by text 24
      (row_of (Terms row.MoreFactors) terms.MORE_FACTORS
      (Part names.OPERATION_NAME ∷ Part terms.FACTOR ∷ Part terms.MORE_FACTORS ∷ [])) refl (part d1 (part d2 (part d3 nothing))) given)

  pub by_applied_factor : {o1 o2 o3 : List Token} {m1 m2 m3 value : Meaning} → D names.OPERATION_NAME o1 m1 → D terms.ARGUMENTS o2 m2 →
      D terms.SORT_MARK o3 m3 → terms_row_means row.AppliedFactor None (m1 ∷ m2 ∷ m3 ∷ []) ≡ Some value →
      D terms.FACTOR (o1 ++ (o2 ++ o3)) value
  by_applied_factor {o1 = o1} {o2 = o2} {o3 = o3} {m1 = m1} {m2 = m2} {m3 = m3} {value = value} d1 d2 d3 given =
      subst (λ (l : List Token). D terms.FACTOR (o1 ++ (o2 ++ l)) value) (append-nil o3)
      (derived_by text 25
      (row_of (Terms row.AppliedFactor) terms.FACTOR (Part names.OPERATION_NAME ∷ Part terms.ARGUMENTS ∷ Part terms.SORT_MARK ∷ []))
      refl (part d1 (part d2 (part d3 nothing))) given)

  pub by_bracketed_factor : {t1 t2 : Token} {o1 o2 : List Token} {m1 m2 value : Meaning} → IsOfKind kind.LEFT_PARENTHESIS t1 →
      D terms.TERM o1 m1 → IsOfKind kind.RIGHT_PARENTHESIS t2 → D terms.SORT_MARK o2 m2 →
      terms_row_means row.BracketedFactor (Some t1) (m1 ∷ m2 ∷ []) ≡ Some value → D terms.FACTOR (t1 ∷ (o1 ++ (t2 ∷ o2))) value
  by_bracketed_factor {t1 = t1} {t2 = t2} {o1 = o1} {o2 = o2} {m1 = m1} {m2 = m2} {value = value} i1 d1 i2 d2 given =
      subst (λ (l : List Token). D terms.FACTOR (t1 ∷ (o1 ++ (t2 ∷ l))) value) (append-nil o2)
      (derived_by text 26
      (row_of (Terms row.BracketedFactor) terms.FACTOR
      (Tok kind.LEFT_PARENTHESIS ∷ Part terms.TERM ∷ Tok kind.RIGHT_PARENTHESIS ∷ Part terms.SORT_MARK ∷ [])) refl
      (token t1 i1.kind_is (part d1 (token t2 i2.kind_is (part d2 nothing)))) given)

  pub by_no_arguments : {value : Meaning} → terms_row_means row.NoArguments None ([]) ≡ Some value → D terms.ARGUMENTS ([]) value
  by_no_arguments given = derived_by text 27 (row_of (Terms row.NoArguments) terms.ARGUMENTS ([])) refl nothing given

  pub by_arguments : {t1 t2 : Token} {o1 : List Token} {m1 value : Meaning} → IsOfKind kind.LEFT_PARENTHESIS t1 → D terms.TERM_LIST o1 m1 →
      IsOfKind kind.RIGHT_PARENTHESIS t2 → terms_row_means row.Arguments (Some t1) (m1 ∷ []) ≡ Some value →
      D terms.ARGUMENTS (t1 ∷ (o1 ++ (t2 ∷ []))) value
  by_arguments {t1 = t1} {t2 = t2} i1 d1 i2 given =
      derived_by text 28
      (row_of (Terms row.Arguments) terms.ARGUMENTS (Tok kind.LEFT_PARENTHESIS ∷ Part terms.TERM_LIST ∷ Tok kind.RIGHT_PARENTHESIS ∷ []))
      refl (token t1 i1.kind_is (part d1 (token t2 i2.kind_is nothing))) given

  pub by_no_sort_mark : {value : Meaning} → terms_row_means row.NoSortMark None ([]) ≡ Some value → D terms.SORT_MARK ([]) value
  by_no_sort_mark given = derived_by text 29 (row_of (Terms row.NoSortMark) terms.SORT_MARK ([])) refl nothing given

  pub by_sort_mark : {t1 : Token} {o1 : List Token} {m1 value : Meaning} → IsOfKind kind.OF t1 → D names.NAME o1 m1 →
      terms_row_means row.SortMark None (m1 ∷ []) ≡ Some value → D terms.SORT_MARK (t1 ∷ o1) value
  by_sort_mark {t1 = t1} {o1 = o1} {m1 = m1} {value = value} i1 d1 given =
      subst (λ (l : List Token). D terms.SORT_MARK (t1 ∷ l) value) (append-nil o1)
      (derived_by text 30 (row_of (Terms row.SortMark) terms.SORT_MARK (Tok kind.OF ∷ Part names.NAME ∷ [])) refl
      (token t1 i1.kind_is (part d1 nothing)) given)

  pub by_term_list : {o1 o2 : List Token} {m1 m2 value : Meaning} → D terms.TERM o1 m1 → D terms.MORE_TERMS o2 m2 →
      terms_row_means row.TermList None (m1 ∷ m2 ∷ []) ≡ Some value → D terms.TERM_LIST (o1 ++ o2) value
  by_term_list {o1 = o1} {o2 = o2} {m1 = m1} {m2 = m2} {value = value} d1 d2 given =
      subst (λ (l : List Token). D terms.TERM_LIST (o1 ++ l) value) (append-nil o2)
      (derived_by text 31 (row_of (Terms row.TermList) terms.TERM_LIST (Part terms.TERM ∷ Part terms.MORE_TERMS ∷ [])) refl
      (part d1 (part d2 nothing)) given)

  pub by_no_more_terms : {value : Meaning} → terms_row_means row.NoMoreTerms None ([]) ≡ Some value → D terms.MORE_TERMS ([]) value
  by_no_more_terms given = derived_by text 32 (row_of (Terms row.NoMoreTerms) terms.MORE_TERMS ([])) refl nothing given

  pub by_more_terms : {t1 : Token} {o1 : List Token} {m1 value : Meaning} → IsOfKind kind.COMMA t1 → D terms.TERM_LIST o1 m1 →
      terms_row_means row.MoreTerms None (m1 ∷ []) ≡ Some value → D terms.MORE_TERMS (t1 ∷ o1) value
  by_more_terms {t1 = t1} {o1 = o1} {m1 = m1} {value = value} i1 d1 given =
      subst (λ (l : List Token). D terms.MORE_TERMS (t1 ∷ l) value) (append-nil o1)
      (derived_by text 33 (row_of (Terms row.MoreTerms) terms.MORE_TERMS (Tok kind.COMMA ∷ Part terms.TERM_LIST ∷ [])) refl
      (token t1 i1.kind_is (part d1 nothing)) given)
