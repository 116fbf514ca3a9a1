-- The rows of renamings keep what their parts are.
use Rattle.std.proofs.Common.{ℕ, List, [], ◌∷◌, refl, append_assoc}
use Rattle.std.proofs.lemmas.List.{append-nil}
use Rattle.ll_engine.specs.Values.{nothing, token, part}
use Rattle.lotos_lexer.specs.declared.kinds.TheConstants as kind
use Rattle.lotos_rows.specs.Row.{row_of}
use Rattle.lotos_rows.specs.declared.renamings.TheConstants as renamings
use Rattle.lotos_rows.specs.declared.names.TheConstants as names
use Rattle.lotos_rows.specs.declared.renamings.RenamingsRow.TheVariants as row
use Rattle.lotos_rows.specs.declared.row_names.RowName.TheVariants.{Renamings}
use Rattle.ll_engine.specs.declared.symbol.Symbol.TheVariants.{Token as Tok, Part}
use Rattle.tree_building.specs.PartSentences.{as_one}
use Rattle.tree_building.specs.Sentences.{KeepsParts}
use Rattle.lotos_rows.specs.Words.{left_out, there, behind}
use Rattle.lotos_rows.specs.Names as names_family
use Rattle.lotos_rows.specs.Renamings as family
use Rattle.lotos_rows.specs.RenamingsRows.{renamings_rows}
use Rattle.tree_building.specs.NamesSentences.{none_further, further_behind, further_at_once}
use Rattle.lotos_base.proofs.Each.{Each}
use Rattle.tree_building.proofs.Lists.{is_of, shown, joined_loosely}

module _ (text : List ℕ) where
  renames_row : KeepsParts text
      (row_of (Renamings row.Renames) renamings.RENAMES (Part renamings.SORT_RENAMES ∷ Part renamings.OPERATION_RENAMES ∷ []))
  renames_row _ _ value (part (as_one p1) (part (as_one p2) nothing)) given =
      shown _ _ given (family.renames p1 p2) (simp (append-nil) refl)

  no_sort_renames_row : KeepsParts text (row_of (Renamings row.NoSortRenames) renamings.SORT_RENAMES [])
  no_sort_renames_row _ _ value nothing given = shown _ _ given left_out refl

  sort_renames_row : KeepsParts text
      (row_of (Renamings row.SortRenames) renamings.SORT_RENAMES (Tok kind.SORTNAMES ∷ Part renamings.SORT_PAIRS ∷ []))
  sort_renames_row _ _ value (token t1 i1 (part (as_one p1) nothing)) given =
      shown _ _ given (there (behind (is_of t1 i1) p1)) (simp (append-nil) refl)

  sort_pairs_row : KeepsParts text
      (row_of (Renamings row.SortPairs) renamings.SORT_PAIRS
      (Part names.NAME ∷ Tok kind.FOR ∷ Part names.NAME ∷ Part renamings.MORE_SORT_PAIRS ∷ []))
  sort_pairs_row _ _ value
      (part (as_one (names_family.a_name i)) (token t1 i1 (part (as_one (names_family.a_name j)) (part (as_one p3) nothing)))) given =
      shown _ _ given (joined_loosely _ _ (family.sort_for i (is_of t1 i1) j) p3) (simp (append-nil) refl)

  no_more_sort_pairs_row : KeepsParts text (row_of (Renamings row.NoMoreSortPairs) renamings.MORE_SORT_PAIRS [])
  no_more_sort_pairs_row _ _ value nothing given = shown _ _ given none_further refl

  more_sort_pairs_after_comma_row : KeepsParts text
      (row_of (Renamings row.MoreSortPairsAfterComma) renamings.MORE_SORT_PAIRS (Tok kind.COMMA ∷ Part renamings.SORT_PAIRS ∷ []))
  more_sort_pairs_after_comma_row _ _ value (token t1 i1 (part (as_one p1) nothing)) given =
      shown _ _ given (further_behind (is_of t1 i1) p1) (simp (append-nil) refl)

  more_sort_pairs_row : KeepsParts text (row_of (Renamings row.MoreSortPairs) renamings.MORE_SORT_PAIRS (Part renamings.SORT_PAIRS ∷ []))
  more_sort_pairs_row _ _ value (part (as_one p1) nothing) given = shown _ _ given (further_at_once p1) (simp (append-nil) refl)

  no_operation_renames_row : KeepsParts text (row_of (Renamings row.NoOperationRenames) renamings.OPERATION_RENAMES [])
  no_operation_renames_row _ _ value nothing given = shown _ _ given left_out refl

  operation_renames_row : KeepsParts text
      (row_of (Renamings row.OperationRenames) renamings.OPERATION_RENAMES (Tok kind.OPNNAMES ∷ Part renamings.OPERATION_PAIRS ∷ []))
  operation_renames_row _ _ value (token t1 i1 (part (as_one p1) nothing)) given =
      shown _ _ given (there (behind (is_of t1 i1) p1)) (simp (append-nil) refl)

  operation_pairs_row : KeepsParts text
      (row_of (Renamings row.OperationPairs) renamings.OPERATION_PAIRS
      (Part names.OPERATION ∷ Tok kind.FOR ∷ Part names.OPERATION ∷ Part renamings.MORE_OPERATION_PAIRS ∷ []))
  operation_pairs_row _ _ value (part (as_one p1) (token t1 i1 (part (as_one p2) (part (as_one p3) nothing)))) given =
      shown _ _ given (joined_loosely _ _ (family.operation_for p1 (is_of t1 i1) p2) p3) (simp (append-nil, append_assoc) refl)

  no_more_operation_pairs_row : KeepsParts text (row_of (Renamings row.NoMoreOperationPairs) renamings.MORE_OPERATION_PAIRS [])
  no_more_operation_pairs_row _ _ value nothing given = shown _ _ given none_further refl

  more_operation_pairs_after_comma_row : KeepsParts text
      (row_of (Renamings row.MoreOperationPairsAfterComma) renamings.MORE_OPERATION_PAIRS
      (Tok kind.COMMA ∷ Part renamings.OPERATION_PAIRS ∷ []))
  more_operation_pairs_after_comma_row _ _ value (token t1 i1 (part (as_one p1) nothing)) given =
      shown _ _ given (further_behind (is_of t1 i1) p1) (simp (append-nil) refl)

  more_operation_pairs_row : KeepsParts text
      (row_of (Renamings row.MoreOperationPairs) renamings.MORE_OPERATION_PAIRS (Part renamings.OPERATION_PAIRS ∷ []))
  more_operation_pairs_row _ _ value (part (as_one p1) nothing) given = shown _ _ given (further_at_once p1) (simp (append-nil) refl)

  pub renamings_keep : Each (KeepsParts text) renamings_rows
  renamings_keep = (
    renames_row,
    (
      no_sort_renames_row,
      (
        sort_renames_row,
        (
          sort_pairs_row,
          (
            no_more_sort_pairs_row,
            (
              more_sort_pairs_after_comma_row,
              (
                more_sort_pairs_row,
                (
                  no_operation_renames_row,
                  (
                    operation_renames_row,
                    (
                      operation_pairs_row,
                      (no_more_operation_pairs_row, (more_operation_pairs_after_comma_row, (more_operation_pairs_row, tt))),
                    ),
                  ),
                ),
              ),
            ),
          ),
        ),
      ),
    ),
  )
