-- A derivation by each row of this subject: renamings.
use Rattle.std.proofs.Common.{◌≡◌, ℕ, List, [], ◌∷◌, ◌++◌, refl, subst}
use Rattle.std.specs.Prelude.{Some, None}
use Rattle.std.proofs.lemmas.List.{append-nil}
use Rattle.ll_engine.specs.Values.{nothing, token, part}
use Rattle.lotos_lexer.specs.declared.tokens.Token.{Token}
use Rattle.lotos_lexer.specs.declared.kinds.TheConstants as kind
use Rattle.lotos_rows.specs.Row.{row_of}
use Rattle.lotos_rows.specs.declared.names.TheConstants as names
use Rattle.lotos_rows.specs.declared.renamings.TheConstants as renamings
use Rattle.lotos_rows.specs.declared.renamings.RenamingsRow.TheVariants as row
use Rattle.lotos_rows.specs.declared.row_names.RowName.TheVariants.{Renamings}
use Rattle.ll_engine.specs.declared.symbol.Symbol.TheVariants.{Token as Tok, Part}
use Rattle.lotos_rows.specs.Words.{IsOfKind}
use Rattle.tree_building.specs.Meaning.{Meaning}
use Rattle.tree_building.specs.RowMeaning.{renamings_row_means}
use Rattle.tree_building.specs.Sentences.{Derived}
use Rattle.tree_building.proofs.DerivedBy.{derived_by}

module _ (text : List ℕ) where
  abbrev D : ℕ → List Token → Meaning → Type 0
  D = Derived text

  pub by_renames : {o1 o2 : List Token} {m1 m2 value : Meaning} → D renamings.SORT_RENAMES o1 m1 → D renamings.OPERATION_RENAMES o2 m2 →
      renamings_row_means row.Renames None (m1 ∷ m2 ∷ []) ≡ Some value → D renamings.RENAMES (o1 ++ o2) value
  by_renames {o1 = o1} {o2 = o2} {m1 = m1} {m2 = m2} {value = value} d1 d2 given =
      subst (λ (l : List Token). D renamings.RENAMES (o1 ++ l) value) (append-nil o2)
      (derived_by text 76
      (row_of (Renamings row.Renames) renamings.RENAMES (Part renamings.SORT_RENAMES ∷ Part renamings.OPERATION_RENAMES ∷ [])) refl
      (part d1 (part d2 nothing)) given)

  pub by_no_sort_renames : {value : Meaning} → renamings_row_means row.NoSortRenames None ([]) ≡ Some value →
      D renamings.SORT_RENAMES ([]) value
  by_no_sort_renames given = derived_by text 77 (row_of (Renamings row.NoSortRenames) renamings.SORT_RENAMES ([])) refl nothing given

  pub by_sort_renames : {t1 : Token} {o1 : List Token} {m1 value : Meaning} → IsOfKind kind.SORTNAMES t1 → D renamings.SORT_PAIRS o1 m1 →
      renamings_row_means row.SortRenames None (m1 ∷ []) ≡ Some value → D renamings.SORT_RENAMES (t1 ∷ o1) value
  by_sort_renames {t1 = t1} {o1 = o1} {m1 = m1} {value = value} i1 d1 given =
      subst (λ (l : List Token). D renamings.SORT_RENAMES (t1 ∷ l) value) (append-nil o1)
      (derived_by text 78
      (row_of (Renamings row.SortRenames) renamings.SORT_RENAMES (Tok kind.SORTNAMES ∷ Part renamings.SORT_PAIRS ∷ [])) refl
      (token t1 i1.kind_is (part d1 nothing)) given)

  pub by_sort_pairs : {o1 o2 o3 : List Token} {m1 m2 m3 value : Meaning} {t1 : Token} → D names.NAME o1 m1 → IsOfKind kind.FOR t1 →
      D names.NAME o2 m2 → D renamings.MORE_SORT_PAIRS o3 m3 → renamings_row_means row.SortPairs None (m1 ∷ m2 ∷ m3 ∷ []) ≡ Some value →
      D renamings.SORT_PAIRS (o1 ++ (t1 ∷ (o2 ++ o3))) value
  by_sort_pairs {o1 = o1} {o2 = o2} {o3 = o3} {m1 = m1} {m2 = m2} {m3 = m3} {value = value} {t1 = t1} d1 i1 d2 d3 given =
      subst (λ (l : List Token). D renamings.SORT_PAIRS (o1 ++ (t1 ∷ (o2 ++ l))) value) (append-nil o3)
      (derived_by text 79
      (row_of (Renamings row.SortPairs) renamings.SORT_PAIRS
      (Part names.NAME ∷ Tok kind.FOR ∷ Part names.NAME ∷ Part renamings.MORE_SORT_PAIRS ∷ [])) refl
      (part d1 (token t1 i1.kind_is (part d2 (part d3 nothing)))) given)

  pub by_no_more_sort_pairs : {value : Meaning} → renamings_row_means row.NoMoreSortPairs None ([]) ≡ Some value →
      D renamings.MORE_SORT_PAIRS ([]) value
  by_no_more_sort_pairs given =
      derived_by text 80 (row_of (Renamings row.NoMoreSortPairs) renamings.MORE_SORT_PAIRS ([])) refl nothing given

  pub by_more_sort_pairs_after_comma : {t1 : Token} {o1 : List Token} {m1 value : Meaning} → IsOfKind kind.COMMA t1 →
      D renamings.SORT_PAIRS o1 m1 → renamings_row_means row.MoreSortPairsAfterComma None (m1 ∷ []) ≡ Some value →
      D renamings.MORE_SORT_PAIRS (t1 ∷ o1) value
  by_more_sort_pairs_after_comma {t1 = t1} {o1 = o1} {m1 = m1} {value = value} i1 d1 given =
      subst (λ (l : List Token). D renamings.MORE_SORT_PAIRS (t1 ∷ l) value) (append-nil o1)
      (derived_by text 81
      (row_of (Renamings row.MoreSortPairsAfterComma) renamings.MORE_SORT_PAIRS (Tok kind.COMMA ∷ Part renamings.SORT_PAIRS ∷ []))
      refl (token t1 i1.kind_is (part d1 nothing)) given)

  pub by_more_sort_pairs : {o1 : List Token} {m1 value : Meaning} → D renamings.SORT_PAIRS o1 m1 →
      renamings_row_means row.MoreSortPairs None (m1 ∷ []) ≡ Some value → D renamings.MORE_SORT_PAIRS (o1) value
  by_more_sort_pairs {o1 = o1} {m1 = m1} {value = value} d1 given =
      subst (λ (l : List Token). D renamings.MORE_SORT_PAIRS (l) value) (append-nil o1)
      (derived_by text 82 (row_of (Renamings row.MoreSortPairs) renamings.MORE_SORT_PAIRS (Part renamings.SORT_PAIRS ∷ [])) refl
      (part d1 nothing) given)

  pub by_no_operation_renames : {value : Meaning} → renamings_row_means row.NoOperationRenames None ([]) ≡ Some value →
      D renamings.OPERATION_RENAMES ([]) value
  by_no_operation_renames given =
      derived_by text 83 (row_of (Renamings row.NoOperationRenames) renamings.OPERATION_RENAMES ([])) refl nothing given

  pub by_operation_renames : {t1 : Token} {o1 : List Token} {m1 value : Meaning} → IsOfKind kind.OPNNAMES t1 →
      D renamings.OPERATION_PAIRS o1 m1 → renamings_row_means row.OperationRenames None (m1 ∷ []) ≡ Some value →
      D renamings.OPERATION_RENAMES (t1 ∷ o1) value
  by_operation_renames {t1 = t1} {o1 = o1} {m1 = m1} {value = value} i1 d1 given =
      subst (λ (l : List Token). D renamings.OPERATION_RENAMES (t1 ∷ l) value) (append-nil o1)
      (derived_by text 84
      (row_of (Renamings row.OperationRenames) renamings.OPERATION_RENAMES (Tok kind.OPNNAMES ∷ Part renamings.OPERATION_PAIRS ∷ []))
      refl (token t1 i1.kind_is (part d1 nothing)) given)

  pub by_operation_pairs : {o1 o2 o3 : List Token} {m1 m2 m3 value : Meaning} {t1 : Token} → D names.OPERATION o1 m1
      → IsOfKind kind.FOR t1 →
      D names.OPERATION o2 m2 → D renamings.MORE_OPERATION_PAIRS o3 m3 →
      renamings_row_means row.OperationPairs None (m1 ∷ m2 ∷ m3 ∷ []) ≡ Some value →
      D renamings.OPERATION_PAIRS (o1 ++ (t1 ∷ (o2 ++ o3))) value
  by_operation_pairs {o1 = o1} {o2 = o2} {o3 = o3} {m1 = m1} {m2 = m2} {m3 = m3} {value = value} {t1 = t1} d1 i1 d2 d3 given =
      subst (λ (l : List Token). D renamings.OPERATION_PAIRS (o1 ++ (t1 ∷ (o2 ++ l))) value) (append-nil o3)
      (derived_by text 85
      (row_of (Renamings row.OperationPairs) renamings.OPERATION_PAIRS
      (Part names.OPERATION ∷ Tok kind.FOR ∷ Part names.OPERATION ∷ Part renamings.MORE_OPERATION_PAIRS ∷ [])) refl
      (part d1 (token t1 i1.kind_is (part d2 (part d3 nothing)))) given)

  pub by_no_more_operation_pairs : {value : Meaning} → renamings_row_means row.NoMoreOperationPairs None ([]) ≡ Some value →
      D renamings.MORE_OPERATION_PAIRS ([]) value
  by_no_more_operation_pairs given =
      derived_by text 86 (row_of (Renamings row.NoMoreOperationPairs) renamings.MORE_OPERATION_PAIRS ([])) refl nothing given

  pub by_more_operation_pairs_after_comma : {t1 : Token} {o1 : List Token} {m1 value : Meaning} → IsOfKind kind.COMMA t1 →
      D renamings.OPERATION_PAIRS o1 m1 → renamings_row_means row.MoreOperationPairsAfterComma None (m1 ∷ []) ≡ Some value →
      D renamings.MORE_OPERATION_PAIRS (t1 ∷ o1) value
  by_more_operation_pairs_after_comma {t1 = t1} {o1 = o1} {m1 = m1} {value = value} i1 d1 given =
      subst (λ (l : List Token). D renamings.MORE_OPERATION_PAIRS (t1 ∷ l) value) (append-nil o1)
      (derived_by text 87
      (row_of (Renamings row.MoreOperationPairsAfterComma) renamings.MORE_OPERATION_PAIRS
      (Tok kind.COMMA ∷ Part renamings.OPERATION_PAIRS ∷ [])) refl (token t1 i1.kind_is (part d1 nothing)) given)

  pub by_more_operation_pairs : {o1 : List Token} {m1 value : Meaning} → D renamings.OPERATION_PAIRS o1 m1 →
      renamings_row_means row.MoreOperationPairs None (m1 ∷ []) ≡ Some value → D renamings.MORE_OPERATION_PAIRS (o1) value
  by_more_operation_pairs {o1 = o1} {m1 = m1} {value = value} d1 given =
      subst (λ (l : List Token). D renamings.MORE_OPERATION_PAIRS (l) value) (append-nil o1)
      (derived_by text 88
      (row_of (Renamings row.MoreOperationPairs) renamings.MORE_OPERATION_PAIRS (Part renamings.OPERATION_PAIRS ∷ [])) refl
      (part d1 nothing) given)
