-- The rows of equations.
use Rattle.std.specs.Prelude.{List, [], ◌∷◌}
use Rattle.ll_engine.specs.declared.symbol.Symbol.TheVariants.{Token, Part}
use Rattle.lotos_lexer.specs.declared.kinds.TheConstants as kind
use Rattle.lotos_rows.specs.declared.equations.TheConstants as equations
use Rattle.lotos_rows.specs.declared.names.TheConstants as names
use Rattle.lotos_rows.specs.declared.terms.TheConstants as terms
use Rattle.lotos_rows.specs.declared.equations.EquationsRow.TheVariants as row
use Rattle.lotos_rows.specs.declared.row_names.RowName.TheVariants.{Equations}
use Rattle.lotos_rows.specs.Row.{GrammarRow, row_of}

abbrev pub equations_rows : List GrammarRow
equations_rows =
    row_of (Equations row.NoVariablesForAll) equations.VARIABLES_FOR_ALL [] ∷
    row_of (Equations row.VariablesForAll) equations.VARIABLES_FOR_ALL (Token kind.FORALL ∷ Part names.VARIABLES ∷ []) ∷
    row_of (Equations row.NoEquationGroups) equations.EQUATION_GROUPS [] ∷
    row_of (Equations row.EquationGroups) equations.EQUATION_GROUPS
    (Token kind.OFSORT ∷ Part names.NAME ∷ Part equations.VARIABLES_FOR_ALL ∷ Part equations.EQUATION_LIST
    ∷ Part equations.EQUATION_GROUPS ∷ []) ∷
    row_of (Equations row.NoEquationList) equations.EQUATION_LIST [] ∷
    row_of (Equations row.EquationList) equations.EQUATION_LIST (Part equations.EQUATION ∷ Part equations.AFTER_EQUATION ∷ []) ∷
    row_of (Equations row.NoAfterEquation) equations.AFTER_EQUATION [] ∷
    row_of (Equations row.AfterEquation) equations.AFTER_EQUATION (Token kind.SEMICOLON ∷ Part equations.EQUATION_LIST ∷ []) ∷
    row_of (Equations row.Equation) equations.EQUATION (Part terms.TERM ∷ Part equations.AFTER_FIRST_TERM ∷ []) ∷
    row_of (Equations row.EqualsAfterTerm) equations.AFTER_FIRST_TERM
    (Token kind.EQUALS ∷ Part terms.TERM ∷ Part equations.AFTER_FIRST_PAIR ∷ []) ∷
    row_of (Equations row.ConclusionAfterTerm) equations.AFTER_FIRST_TERM (Part equations.CONCLUSION ∷ []) ∷
    row_of (Equations row.NoAfterFirstPair) equations.AFTER_FIRST_PAIR [] ∷
    row_of (Equations row.AfterFirstPair) equations.AFTER_FIRST_PAIR (Part equations.CONCLUSION ∷ []) ∷
    row_of (Equations row.PremissAndConclusion) equations.CONCLUSION
    (Token kind.COMMA ∷ Part equations.PREMISS ∷ Part equations.CONCLUSION ∷ []) ∷
    row_of (Equations row.Conclusion) equations.CONCLUSION (Token kind.IMPLIES ∷ Part terms.TERM ∷ Token kind.EQUALS ∷ Part terms.TERM ∷ [])
    ∷
    row_of (Equations row.Premiss) equations.PREMISS (Part terms.TERM ∷ Part equations.PREMISS_RIGHT ∷ []) ∷
    row_of (Equations row.NoPremissRight) equations.PREMISS_RIGHT [] ∷
    row_of (Equations row.PremissRight) equations.PREMISS_RIGHT (Token kind.EQUALS ∷ Part terms.TERM ∷ []) ∷
    []
