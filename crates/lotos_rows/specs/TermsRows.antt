-- The rows of terms.
use Rattle.std.specs.Prelude.{List, [], ◌∷◌}
use Rattle.ll_engine.specs.declared.symbol.Symbol.TheVariants.{Token, Part}
use Rattle.lotos_lexer.specs.declared.kinds.TheConstants as kind
use Rattle.lotos_rows.specs.declared.names.TheConstants as names
use Rattle.lotos_rows.specs.declared.terms.TheConstants as terms
use Rattle.lotos_rows.specs.declared.terms.TermsRow.TheVariants as row
use Rattle.lotos_rows.specs.declared.row_names.RowName.TheVariants.{Terms}
use Rattle.lotos_rows.specs.Row.{GrammarRow, row_of}

abbrev pub terms_rows : List GrammarRow
terms_rows =
    row_of (Terms row.Term) terms.TERM (Part terms.FACTOR ∷ Part terms.MORE_FACTORS ∷ []) ∷
    row_of (Terms row.NoMoreFactors) terms.MORE_FACTORS [] ∷
    row_of (Terms row.MoreFactors) terms.MORE_FACTORS (Part names.OPERATION_NAME ∷ Part terms.FACTOR ∷ Part terms.MORE_FACTORS ∷ []) ∷
    row_of (Terms row.AppliedFactor) terms.FACTOR (Part names.OPERATION_NAME ∷ Part terms.ARGUMENTS ∷ Part terms.SORT_MARK ∷ []) ∷
    row_of (Terms row.BracketedFactor) terms.FACTOR (Token kind.LEFT_PARENTHESIS ∷ Part terms.TERM ∷ Token kind.RIGHT_PARENTHESIS
    ∷ Part terms.SORT_MARK ∷ []) ∷
    row_of (Terms row.NoArguments) terms.ARGUMENTS [] ∷
    row_of (Terms row.Arguments) terms.ARGUMENTS (Token kind.LEFT_PARENTHESIS ∷ Part terms.TERM_LIST ∷ Token kind.RIGHT_PARENTHESIS ∷ []) ∷
    row_of (Terms row.NoSortMark) terms.SORT_MARK [] ∷
    row_of (Terms row.SortMark) terms.SORT_MARK (Token kind.OF ∷ Part names.NAME ∷ []) ∷
    row_of (Terms row.TermList) terms.TERM_LIST (Part terms.TERM ∷ Part terms.MORE_TERMS ∷ []) ∷
    row_of (Terms row.NoMoreTerms) terms.MORE_TERMS [] ∷
    row_of (Terms row.MoreTerms) terms.MORE_TERMS (Token kind.COMMA ∷ Part terms.TERM_LIST ∷ []) ∷
    []
