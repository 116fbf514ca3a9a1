-- The rows of names and lists of them.
use Rattle.std.specs.Prelude.{List, [], ◌∷◌}
use Rattle.ll_engine.specs.declared.symbol.Symbol.TheVariants.{Token, Part}
use Rattle.lotos_lexer.specs.declared.kinds.TheConstants as kind
use Rattle.lotos_rows.specs.declared.names.TheConstants as names
use Rattle.lotos_rows.specs.declared.names.NamesRow.TheVariants as row
use Rattle.lotos_rows.specs.declared.row_names.RowName.TheVariants.{Names}
use Rattle.lotos_rows.specs.Row.{GrammarRow, row_of}

abbrev pub names_rows : List GrammarRow
names_rows =
    row_of (Names row.Name) names.NAME (Token kind.NAME ∷ []) ∷
    row_of (Names row.Names) names.NAMES (Part names.NAME ∷ Part names.MORE_NAMES ∷ []) ∷
    row_of (Names row.NoMoreNames) names.MORE_NAMES [] ∷
    row_of (Names row.MoreNames) names.MORE_NAMES (Token kind.COMMA ∷ Part names.NAMES ∷ []) ∷
    row_of (Names row.NoOptionalNames) names.OPTIONAL_NAMES [] ∷
    row_of (Names row.OptionalNames) names.OPTIONAL_NAMES (Part names.NAMES ∷ []) ∷
    row_of (Names row.Gates) names.GATES (Token kind.LEFT_BRACKET ∷ Part names.NAMES ∷ Token kind.RIGHT_BRACKET ∷ []) ∷
    row_of (Names row.NoOptionalGates) names.OPTIONAL_GATES [] ∷
    row_of (Names row.OptionalGates) names.OPTIONAL_GATES (Part names.GATES ∷ []) ∷
    row_of (Names row.LooseNames) names.LOOSE_NAMES (Part names.NAME ∷ Part names.MORE_LOOSE_NAMES ∷ []) ∷
    row_of (Names row.NoMoreLooseNames) names.MORE_LOOSE_NAMES [] ∷
    row_of (Names row.MoreLooseNamesAfterComma) names.MORE_LOOSE_NAMES (Token kind.COMMA ∷ Part names.LOOSE_NAMES ∷ []) ∷
    row_of (Names row.MoreLooseNames) names.MORE_LOOSE_NAMES (Part names.LOOSE_NAMES ∷ []) ∷
    row_of (Names row.Variables) names.VARIABLES (Part names.NAMES ∷ Token kind.COLON ∷ Part names.NAME ∷ Part names.MORE_VARIABLES ∷ []) ∷
    row_of (Names row.NoMoreVariables) names.MORE_VARIABLES [] ∷
    row_of (Names row.MoreVariables) names.MORE_VARIABLES (Token kind.COMMA ∷ Part names.VARIABLES ∷ []) ∷
    row_of (Names row.NameOfOperation) names.OPERATION_NAME (Part names.NAME ∷ []) ∷
    row_of (Names row.DigitName) names.OPERATION_NAME (Token kind.DIGIT_NAME ∷ []) ∷
    row_of (Names row.SignName) names.OPERATION_NAME (Token kind.SIGN_NAME ∷ []) ∷
    row_of (Names row.PrefixOperation) names.OPERATION (Part names.OPERATION_NAME ∷ []) ∷
    row_of (Names row.InfixOperation) names.OPERATION (Token kind.UNDERSCORE ∷ Part names.OPERATION_NAME ∷ Token kind.UNDERSCORE ∷ []) ∷
    row_of (Names row.Profile) names.PROFILE (Token kind.COLON ∷ Part names.OPTIONAL_NAMES ∷ Token kind.ARROW ∷ Part names.NAME ∷ []) ∷
    []
