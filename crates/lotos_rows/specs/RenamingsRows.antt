-- The rows of renamings.
use Rattle.std.specs.Prelude.{List, [], ◌∷◌}
use Rattle.ll_engine.specs.declared.symbol.Symbol.TheVariants.{Token, Part}
use Rattle.lotos_lexer.specs.declared.kinds.TheConstants as kind
use Rattle.lotos_rows.specs.declared.names.TheConstants as names
use Rattle.lotos_rows.specs.declared.renamings.TheConstants as renamings
use Rattle.lotos_rows.specs.declared.renamings.RenamingsRow.TheVariants as row
use Rattle.lotos_rows.specs.declared.row_names.RowName.TheVariants.{Renamings}
use Rattle.lotos_rows.specs.Row.{GrammarRow, row_of}

abbrev pub renamings_rows : List GrammarRow
renamings_rows =
    row_of (Renamings row.Renames) renamings.RENAMES (Part renamings.SORT_RENAMES ∷ Part renamings.OPERATION_RENAMES ∷ []) ∷
    row_of (Renamings row.NoSortRenames) renamings.SORT_RENAMES [] ∷
    row_of (Renamings row.SortRenames) renamings.SORT_RENAMES (Token kind.SORTNAMES ∷ Part renamings.SORT_PAIRS ∷ []) ∷
    row_of (Renamings row.SortPairs) renamings.SORT_PAIRS (Part names.NAME ∷ Token kind.FOR ∷ Part names.NAME
    ∷ Part renamings.MORE_SORT_PAIRS ∷ []) ∷
    row_of (Renamings row.NoMoreSortPairs) renamings.MORE_SORT_PAIRS [] ∷
    row_of (Renamings row.MoreSortPairsAfterComma) renamings.MORE_SORT_PAIRS (Token kind.COMMA ∷ Part renamings.SORT_PAIRS ∷ []) ∷
    row_of (Renamings row.MoreSortPairs) renamings.MORE_SORT_PAIRS (Part renamings.SORT_PAIRS ∷ []) ∷
    row_of (Renamings row.NoOperationRenames) renamings.OPERATION_RENAMES [] ∷
    row_of (Renamings row.OperationRenames) renamings.OPERATION_RENAMES (Token kind.OPNNAMES ∷ Part renamings.OPERATION_PAIRS ∷ []) ∷
    row_of (Renamings row.OperationPairs) renamings.OPERATION_PAIRS
    (Part names.OPERATION ∷ Token kind.FOR ∷ Part names.OPERATION ∷ Part renamings.MORE_OPERATION_PAIRS ∷ []) ∷
    row_of (Renamings row.NoMoreOperationPairs) renamings.MORE_OPERATION_PAIRS [] ∷
    row_of (Renamings row.MoreOperationPairsAfterComma) renamings.MORE_OPERATION_PAIRS
    (Token kind.COMMA ∷ Part renamings.OPERATION_PAIRS ∷ []) ∷
    row_of (Renamings row.MoreOperationPairs) renamings.MORE_OPERATION_PAIRS (Part renamings.OPERATION_PAIRS ∷ []) ∷
    []
