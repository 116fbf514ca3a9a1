-- The rows of the four texts.
use Rattle.std.specs.Prelude.{List, [], ◌∷◌}
use Rattle.ll_engine.specs.declared.symbol.Symbol.TheVariants.{Token, Part}
use Rattle.lotos_lexer.specs.declared.kinds.TheConstants as kind
use Rattle.lotos_rows.specs.declared.behaviours.TheConstants as behaviours
use Rattle.lotos_rows.specs.declared.definitions.TheConstants as definitions
use Rattle.lotos_rows.specs.declared.names.TheConstants as names
use Rattle.lotos_rows.specs.declared.specification.TheConstants as specification
use Rattle.lotos_rows.specs.declared.starts.TheConstants as starts
use Rattle.lotos_rows.specs.declared.terms.TheConstants as terms
use Rattle.lotos_rows.specs.declared.starts.StartsRow.TheVariants as row
use Rattle.lotos_rows.specs.declared.row_names.RowName.TheVariants.{Starts}
use Rattle.lotos_rows.specs.Row.{GrammarRow, row_of}

abbrev pub starts_rows : List GrammarRow
starts_rows =
    row_of (Starts row.Spec) starts.SPEC (Token kind.SPECIFICATION ∷ Part definitions.HEADING ∷ Part specification.ITEMS
    ∷ Part specification.BEHAVIOUR_WORD ∷ Part behaviours.BEHAVIOUR ∷ Part definitions.WHERE ∷ Token kind.ENDSPEC ∷ []) ∷
    row_of (Starts row.Typetext) starts.TYPETEXT (Part specification.ITEMS ∷ []) ∷
    row_of (Starts row.NoOrder) starts.ORDER [] ∷
    row_of (Starts row.Order) starts.ORDER (Part names.OPERATION ∷ Part starts.OPTIONAL_PROFILE ∷ Part starts.OPTIONAL_STATUS
    ∷ Token kind.SEMICOLON ∷ Part starts.ORDER ∷ []) ∷
    row_of (Starts row.NoOptionalProfile) starts.OPTIONAL_PROFILE [] ∷
    row_of (Starts row.OptionalProfile) starts.OPTIONAL_PROFILE (Part names.PROFILE ∷ []) ∷
    row_of (Starts row.NoTerms) starts.TERMS [] ∷
    row_of (Starts row.Terms) starts.TERMS (Part terms.TERM_LIST ∷ []) ∷
    row_of (Starts row.NoOptionalStatus) starts.OPTIONAL_STATUS [] ∷
    row_of (Starts row.OptionalStatus) starts.OPTIONAL_STATUS (Part names.NAME ∷ []) ∷
    []
