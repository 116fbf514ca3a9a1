-- The variables of a lemma read token by token: what was read so far, and what may come next.
use Rattle.std.specs.Prelude.{ℕ, ◌==◌, List, [], ◌∷◌, ◌++◌, Option, None, Some, if◌then◌else◌}
use Rattle.lotos_base.specs.WrittenTerm.{PlacedName}
use Rattle.lotos_lexer.specs.declared.kinds.TheConstants.{NAME, COMMA, COLON}
use Rattle.lotos_lexer.specs.declared.tokens.Token.{Token}
use Rattle.lotos_rows.specs.Names.{named, variables_of_sort}
use Rattle.syntax_trees.specs.WrittenVariable.{WrittenVariable}

-- A name of a variable; behind one, a comma or a colon; the name of a sort; behind one, a comma or the end.
pub data Awaited : Type 0 where
  a_name comma_or_colon a_sort comma_or_end : Awaited

-- The variables whose sorts were read, and the names of those behind them.
pub record VariablesRead : Type 0 where
  pub variables : List WrittenVariable
  pub names : List PlacedName
  pub awaited : Awaited

abbrev pub none_read : VariablesRead
none_read = record { variables = []; names = []; awaited = a_name }

abbrev pub awaiting : VariablesRead → Awaited → VariablesRead
awaiting read awaited = record { variables = read.variables; names = read.names; awaited = awaited }

abbrev pub with_variable_name : VariablesRead → PlacedName → VariablesRead
with_variable_name read name =
    record { variables = read.variables; names = read.names ++ name ∷ []; awaited = comma_or_colon }

abbrev pub with_variable_sort : VariablesRead → PlacedName → VariablesRead
with_variable_sort read sort =
    record { variables = read.variables ++ variables_of_sort read.names sort; names = []; awaited = comma_or_end }

-- what a token makes of what was read, if it may stand there
abbrev pub read_token_at : Awaited → List ℕ → VariablesRead → Token → Option VariablesRead
read_token_at a_name text read token =
    if token.kind == NAME then Some (with_variable_name read (named text token)) else None
read_token_at comma_or_colon text read token =
    if token.kind == COMMA then Some (awaiting read a_name)
    else if token.kind == COLON then Some (awaiting read a_sort)
    else None
read_token_at a_sort text read token =
    if token.kind == NAME then Some (with_variable_sort read (named text token)) else None
read_token_at comma_or_end text read token =
    if token.kind == COMMA then Some (awaiting read a_name) else None

abbrev pub read_token : List ℕ → VariablesRead → Token → Option VariablesRead
read_token text read token = read_token_at read.awaited text read token

-- what tokens make of it, if it is there
abbrev pub read_on : List ℕ → Option VariablesRead → List Token → Option VariablesRead
read_on text read [] = read
read_on text None (token ∷ tokens) = None
read_on text (Some read) (token ∷ tokens) = read_on text (read_token text read token) tokens

abbrev pub read_tokens : List ℕ → VariablesRead → List Token → Option VariablesRead
read_tokens text read tokens = read_on text (Some read) tokens
