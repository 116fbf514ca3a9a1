-- The rows of definitions of processes and the heading of a specification.
use Rattle.std.specs.Prelude.{List, [], ◌∷◌}
use Rattle.ll_engine.specs.declared.symbol.Symbol.TheVariants.{Token, Part}
use Rattle.lotos_lexer.specs.declared.kinds.TheConstants as kind
use Rattle.lotos_rows.specs.declared.behaviours.TheConstants as behaviours
use Rattle.lotos_rows.specs.declared.definitions.TheConstants as definitions
use Rattle.lotos_rows.specs.declared.names.TheConstants as names
use Rattle.lotos_rows.specs.declared.types.TheConstants as types
use Rattle.lotos_rows.specs.declared.definitions.DefinitionsRow.TheVariants as row
use Rattle.lotos_rows.specs.declared.row_names.RowName.TheVariants.{Definitions}
use Rattle.lotos_rows.specs.Row.{GrammarRow, row_of}

abbrev pub definitions_rows : List GrammarRow
definitions_rows =
    row_of (Definitions row.Heading) definitions.HEADING (Part names.NAME ∷ Part names.OPTIONAL_GATES ∷ Part definitions.PARAMETERS
    ∷ Token kind.COLON ∷ Part definitions.FUNCTIONALITY ∷ []) ∷
    row_of (Definitions row.NoParameters) definitions.PARAMETERS [] ∷
    row_of (Definitions row.Parameters) definitions.PARAMETERS
    (Token kind.LEFT_PARENTHESIS ∷ Part names.VARIABLES ∷ Token kind.RIGHT_PARENTHESIS ∷ []) ∷
    row_of (Definitions row.NoExit) definitions.FUNCTIONALITY (Token kind.NOEXIT ∷ []) ∷
    row_of (Definitions row.ExitFunctionality) definitions.FUNCTIONALITY (Token kind.EXIT ∷ Part definitions.EXIT_SORTS ∷ []) ∷
    row_of (Definitions row.NoExitSorts) definitions.EXIT_SORTS [] ∷
    row_of (Definitions row.ExitSorts) definitions.EXIT_SORTS
    (Token kind.LEFT_PARENTHESIS ∷ Part names.NAMES ∷ Token kind.RIGHT_PARENTHESIS ∷ []) ∷
    row_of (Definitions row.NoWhere) definitions.WHERE [] ∷
    row_of (Definitions row.Where) definitions.WHERE (Token kind.WHERE ∷ Part definitions.INNER ∷ []) ∷
    row_of (Definitions row.NothingInner) definitions.INNER [] ∷
    row_of (Definitions row.InnerItem) definitions.INNER (Part types.ITEM ∷ Part definitions.INNER ∷ []) ∷
    row_of (Definitions row.InnerProcess) definitions.INNER (Part definitions.PROCESS ∷ Part definitions.INNER ∷ []) ∷
    row_of (Definitions row.Process) definitions.PROCESS (Token kind.PROCESS ∷ Part definitions.HEADING ∷ Token kind.DEFINITION
    ∷ Part behaviours.BEHAVIOUR ∷ Part definitions.WHERE ∷ Token kind.ENDPROC ∷ []) ∷
    []
