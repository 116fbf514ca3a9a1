-- The rows of types.
use Rattle.std.specs.Prelude.{List, [], ◌∷◌}
use Rattle.ll_engine.specs.declared.symbol.Symbol.TheVariants.{Token, Part}
use Rattle.lotos_lexer.specs.declared.kinds.TheConstants as kind
use Rattle.lotos_rows.specs.declared.equations.TheConstants as equations
use Rattle.lotos_rows.specs.declared.names.TheConstants as names
use Rattle.lotos_rows.specs.declared.renamings.TheConstants as renamings
use Rattle.lotos_rows.specs.declared.types.TheConstants as types
use Rattle.lotos_rows.specs.declared.types.TypesRow.TheVariants as row
use Rattle.lotos_rows.specs.declared.row_names.RowName.TheVariants.{Types}
use Rattle.lotos_rows.specs.Row.{GrammarRow, row_of}

abbrev pub types_rows : List GrammarRow
types_rows =
    row_of (Types row.LibraryItem) types.ITEM (Token kind.LIBRARY ∷ Part names.NAMES ∷ Token kind.ENDLIB ∷ []) ∷
    row_of (Types row.TypeItem) types.ITEM (Token kind.TYPE ∷ Part names.NAME ∷ Token kind.IS ∷ Part types.BODY ∷ Token kind.ENDTYPE ∷ []) ∷
    row_of (Types row.NamedBody) types.BODY (Part names.NAME ∷ Part types.AFTER_BASE ∷ []) ∷
    row_of (Types row.SectionsBody) types.BODY (Part types.SECTIONS ∷ []) ∷
    row_of (Types row.Renaming) types.AFTER_BASE (Token kind.RENAMEDBY ∷ Part renamings.RENAMES ∷ []) ∷
    row_of (Types row.Actualisation) types.AFTER_BASE (Token kind.ACTUALIZEDBY ∷ Part names.NAMES ∷ Token kind.USING
    ∷ Part renamings.RENAMES ∷ []) ∷
    row_of (Types row.Extension) types.AFTER_BASE (Part names.MORE_NAMES ∷ Part types.SECTIONS ∷ []) ∷
    row_of (Types row.Sections) types.SECTIONS (Part types.FORMAL_SORTS ∷ Part types.FORMAL_OPERATIONS ∷ Part types.FORMAL_EQUATIONS
    ∷ Part types.SORTS ∷ Part types.OPERATIONS ∷ Part types.EQUATIONS ∷ []) ∷
    row_of (Types row.NoFormalSorts) types.FORMAL_SORTS [] ∷
    row_of (Types row.FormalSorts) types.FORMAL_SORTS (Token kind.FORMALSORTS ∷ Part names.LOOSE_NAMES ∷ []) ∷
    row_of (Types row.NoFormalOperations) types.FORMAL_OPERATIONS [] ∷
    row_of (Types row.FormalOperations) types.FORMAL_OPERATIONS (Token kind.FORMALOPNS ∷ Part types.OPERATION_LINES ∷ []) ∷
    row_of (Types row.NoFormalEquations) types.FORMAL_EQUATIONS [] ∷
    row_of (Types row.FormalEquations) types.FORMAL_EQUATIONS
    (Token kind.FORMALEQNS ∷ Part equations.VARIABLES_FOR_ALL ∷ Part equations.EQUATION_GROUPS ∷ []) ∷
    row_of (Types row.NoSorts) types.SORTS [] ∷
    row_of (Types row.Sorts) types.SORTS (Token kind.SORTS ∷ Part names.LOOSE_NAMES ∷ []) ∷
    row_of (Types row.NoOperations) types.OPERATIONS [] ∷
    row_of (Types row.Operations) types.OPERATIONS (Token kind.OPNS ∷ Part types.OPERATION_LINES ∷ []) ∷
    row_of (Types row.NoEquations) types.EQUATIONS [] ∷
    row_of (Types row.Equations) types.EQUATIONS (Token kind.EQNS ∷ Part equations.VARIABLES_FOR_ALL ∷ Part equations.EQUATION_GROUPS ∷ [])
    ∷
    row_of (Types row.NoOperationLines) types.OPERATION_LINES [] ∷
    row_of (Types row.OperationLines) types.OPERATION_LINES
    (Part names.OPERATION ∷ Part types.MORE_OPERATIONS ∷ Part names.PROFILE ∷ Part types.OPERATION_LINES ∷ []) ∷
    row_of (Types row.NoMoreOperations) types.MORE_OPERATIONS [] ∷
    row_of (Types row.MoreOperations) types.MORE_OPERATIONS (Token kind.COMMA ∷ Part names.OPERATION ∷ Part types.MORE_OPERATIONS ∷ []) ∷
    []
