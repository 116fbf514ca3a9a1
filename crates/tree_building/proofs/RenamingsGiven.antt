-- Each row of this subject gives a meaning, where its parts have theirs: renamings.
use Rattle.std.proofs.Common.{ℕ, List, [], ◌∷◌, refl}
use Rattle.ll_engine.specs.Values.{nothing, token, part}
use Rattle.lotos_lexer.specs.declared.kinds.TheConstants as kind
use Rattle.lotos_rows.specs.Row.{row_of}
use Rattle.lotos_rows.specs.RenamingsRows.{renamings_rows}
use Rattle.lotos_rows.specs.declared.names.TheConstants as names
use Rattle.lotos_rows.specs.declared.renamings.TheConstants as renamings
use Rattle.lotos_rows.specs.declared.renamings.RenamingsRow.TheVariants as row
use Rattle.lotos_rows.specs.declared.row_names.RowName.TheVariants.{Renamings}
use Rattle.ll_engine.specs.declared.symbol.Symbol.TheVariants.{Token as Tok, Part}
use Rattle.tree_building.specs.PartSentences.{as_one}
use Rattle.tree_building.specs.Sentences.{GivesMeaning}
use Rattle.lotos_base.proofs.Each.{Each}

module _ (text : List ℕ) where
  renames_gives : GivesMeaning text
      (row_of (Renamings row.Renames) renamings.RENAMES (Part renamings.SORT_RENAMES ∷ Part renamings.OPERATION_RENAMES ∷ []))
  renames_gives _ _ (part (as_one _) (part (as_one _) nothing)) = (_, refl)

  no_sort_renames_gives : GivesMeaning text (row_of (Renamings row.NoSortRenames) renamings.SORT_RENAMES [])
  no_sort_renames_gives _ _ nothing = (_, refl)

  sort_renames_gives : GivesMeaning text
      (row_of (Renamings row.SortRenames) renamings.SORT_RENAMES (Tok kind.SORTNAMES ∷ Part renamings.SORT_PAIRS ∷ []))
  sort_renames_gives _ _ (token _ _ (part (as_one _) nothing)) = (_, refl)

  sort_pairs_gives : GivesMeaning text
      (row_of (Renamings row.SortPairs) renamings.SORT_PAIRS
      (Part names.NAME ∷ Tok kind.FOR ∷ Part names.NAME ∷ Part renamings.MORE_SORT_PAIRS ∷ []))
  sort_pairs_gives _ _ (part (as_one _) (token _ _ (part (as_one _) (part (as_one _) nothing)))) = (_, refl)

  no_more_sort_pairs_gives : GivesMeaning text (row_of (Renamings row.NoMoreSortPairs) renamings.MORE_SORT_PAIRS [])
  no_more_sort_pairs_gives _ _ nothing = (_, refl)

  more_sort_pairs_after_comma_gives : GivesMeaning text
      (row_of (Renamings row.MoreSortPairsAfterComma) renamings.MORE_SORT_PAIRS (Tok kind.COMMA ∷ Part renamings.SORT_PAIRS ∷ []))
  more_sort_pairs_after_comma_gives _ _ (token _ _ (part (as_one _) nothing)) = (_, refl)

  more_sort_pairs_gives : GivesMeaning text
      (row_of (Renamings row.MoreSortPairs) renamings.MORE_SORT_PAIRS (Part renamings.SORT_PAIRS ∷ []))
  more_sort_pairs_gives _ _ (part (as_one _) nothing) = (_, refl)

  no_operation_renames_gives : GivesMeaning text (row_of (Renamings row.NoOperationRenames) renamings.OPERATION_RENAMES [])
  no_operation_renames_gives _ _ nothing = (_, refl)

  operation_renames_gives : GivesMeaning text
      (row_of (Renamings row.OperationRenames) renamings.OPERATION_RENAMES (Tok kind.OPNNAMES ∷ Part renamings.OPERATION_PAIRS ∷ []))
  operation_renames_gives _ _ (token _ _ (part (as_one _) nothing)) = (_, refl)

  operation_pairs_gives : GivesMeaning text
      (row_of (Renamings row.OperationPairs) renamings.OPERATION_PAIRS
      (Part names.OPERATION ∷ Tok kind.FOR ∷ Part names.OPERATION ∷ Part renamings.MORE_OPERATION_PAIRS ∷ []))
  operation_pairs_gives _ _ (part (as_one _) (token _ _ (part (as_one _) (part (as_one _) nothing)))) = (_, refl)

  no_more_operation_pairs_gives : GivesMeaning text (row_of (Renamings row.NoMoreOperationPairs) renamings.MORE_OPERATION_PAIRS [])
  no_more_operation_pairs_gives _ _ nothing = (_, refl)

  more_operation_pairs_after_comma_gives : GivesMeaning text
      (row_of (Renamings row.MoreOperationPairsAfterComma) renamings.MORE_OPERATION_PAIRS
      (Tok kind.COMMA ∷ Part renamings.OPERATION_PAIRS ∷ []))
  more_operation_pairs_after_comma_gives _ _ (token _ _ (part (as_one _) nothing)) = (_, refl)

  more_operation_pairs_gives : GivesMeaning text
      (row_of (Renamings row.MoreOperationPairs) renamings.MORE_OPERATION_PAIRS (Part renamings.OPERATION_PAIRS ∷ []))
  more_operation_pairs_gives _ _ (part (as_one _) nothing) = (_, refl)

  pub renamings_give : Each (GivesMeaning text) renamings_rows
  renamings_give = (
    renames_gives,
    (
      no_sort_renames_gives,
      (
        sort_renames_gives,
        (
          sort_pairs_gives,
          (
            no_more_sort_pairs_gives,
            (
              more_sort_pairs_after_comma_gives,
              (
                more_sort_pairs_gives,
                (
                  no_operation_renames_gives,
                  (
                    operation_renames_gives,
                    (
                      operation_pairs_gives,
                      (no_more_operation_pairs_gives, (more_operation_pairs_after_comma_gives, (more_operation_pairs_gives, tt))),
                    ),
                  ),
                ),
              ),
            ),
          ),
        ),
      ),
    ),
  )
