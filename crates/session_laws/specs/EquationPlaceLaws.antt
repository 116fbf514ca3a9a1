-- The law of the places of equations: in a text that was read no two equations of its types stand at one place.
use Rattle.std.specs.Prelude.{◌≡◌, ℕ, List}
use Rattle.lotos_lexer.specs.declared.tokens.Token.{Token}
use Rattle.lotos_lexer.specs.Tokens as lexed
use Rattle.lotos_lexer.specs.Tokens.{tokens_of}
use Rattle.lotos_rows.specs.Starts.{IsWrittenSpecification}
use Rattle.syntax_trees.specs.WrittenDefinition.{WrittenSpecification}
use Rattle.session_laws.specs.WrittenData.{StandApart, equations_of_items}

abbrev pub ReadEquationsStandApart : Type 0
ReadEquationsStandApart = (number : ℕ) (text : List ℕ) (tokens : List Token) (tree : WrittenSpecification)
    → tokens_of number text ≡ lexed.Tokens tokens
    → IsWrittenSpecification text tokens tree
    → StandApart (equations_of_items tree.items)
