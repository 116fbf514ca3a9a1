-- All rows, and the grammars that they make.
use Rattle.std.specs.Prelude.{ℕ, ◌+◌, List, ◌++◌, map}
use Rattle.ll_engine.specs.Derivation.{Production}
use Rattle.ll_engine.specs.Language.{ContextFree}
use Rattle.lotos_lexer.specs.declared.kinds.TheConstants as kind
use Rattle.lotos_rows.specs.declared.starts.TheConstants as starts
use Rattle.lotos_rows.specs.declared.row_names.RowName.{RowName}
use Rattle.lotos_rows.specs.Row.{GrammarRow}
use Rattle.lotos_rows.specs.NamesRows.{names_rows}
use Rattle.lotos_rows.specs.TermsRows.{terms_rows}
use Rattle.lotos_rows.specs.TypesRows.{types_rows}
use Rattle.lotos_rows.specs.EquationsRows.{equations_rows}
use Rattle.lotos_rows.specs.RenamingsRows.{renamings_rows}
use Rattle.lotos_rows.specs.BehavioursRows.{behaviours_rows}
use Rattle.lotos_rows.specs.DefinitionsRows.{definitions_rows}
use Rattle.lotos_rows.specs.SpecificationRows.{specification_rows}
use Rattle.lotos_rows.specs.StartsRows.{starts_rows}

-- the rows, subject by subject
abbrev pub grammar_rows : List GrammarRow
grammar_rows =
    names_rows ++ terms_rows ++ types_rows ++ equations_rows ++ renamings_rows ++ behaviours_rows ++ definitions_rows ++ specification_rows
    ++ starts_rows

unfoldable pub rows : List Production
rows = map (λ row. row.production) grammar_rows

unfoldable pub row_names : List RowName
row_names = map (λ row. row.name) grammar_rows

-- the grammar in which this part derives the sentences
unfoldable pub grammar_from : ℕ → ContextFree
grammar_from start = record { rows = rows; parts = starts.FIRST_PART + starts.PARTS; tokens = kind.COUNT; start = start }
