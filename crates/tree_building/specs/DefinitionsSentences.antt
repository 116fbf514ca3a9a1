-- The parts of headings, processes and what a `where` declares.
use Rattle.std.specs.Prelude.{ℕ, ◌==◌, List, []}
use Rattle.lotos_lexer.specs.declared.kinds.TheConstants.{LEFT_PARENTHESIS, RIGHT_PARENTHESIS}
use Rattle.lotos_lexer.specs.declared.tokens.Token.{Token}
use Rattle.lotos_rows.specs.declared.definitions.TheConstants as definitions
use Rattle.lotos_rows.specs.Words.{Optional, Between}
use Rattle.lotos_rows.specs.Names.{AreNames, AreParameters}
use Rattle.lotos_rows.specs.Definitions.{IsWrittenFunctionality, IsHeading, IsProcess, IsWhere, AreInner}
use Rattle.tree_building.specs.Meaning.{Meaning, a_heading, some_variables, a_functionality, some_names, some_inner, a_process}
use Rattle.tree_building.specs.PartSentences.{As, choose}

abbrev pub definitions_part : List ℕ → ℕ → List Token → Meaning → Type 0
definitions_part text p tokens meaning =
    choose (p == definitions.HEADING) (As a_heading (IsHeading text) tokens meaning)
    (choose (p == definitions.PARAMETERS) (As some_variables (Optional [] (AreParameters text)) tokens meaning)
    (choose (p == definitions.FUNCTIONALITY) (As a_functionality (IsWrittenFunctionality text) tokens meaning)
    (choose (p == definitions.EXIT_SORTS)
    (As some_names (Optional [] (Between LEFT_PARENTHESIS RIGHT_PARENTHESIS (AreNames text))) tokens meaning)
    (choose (p == definitions.WHERE) (As some_inner (IsWhere text) tokens meaning)
    (choose (p == definitions.INNER) (As some_inner (AreInner text) tokens meaning)
    (As a_process (IsProcess text) tokens meaning))))))
