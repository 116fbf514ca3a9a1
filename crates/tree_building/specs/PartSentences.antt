-- What the parts of the grammar's rows are, in the words of its definition by subject: which tokens mean what as which part.
use Rattle.std.specs.Prelude.{Bool, true, false, List}
use Rattle.lotos_lexer.specs.declared.tokens.Token.{Token}
use Rattle.tree_building.specs.Meaning.{Meaning}

-- the tokens are one of a family, and mean it
pub data As {A : Type 0} (make : A → Meaning) (one : List Token → A → Type 0) : List Token → Meaning → Type 0 where
  as_one : {tokens : List Token} {value : A} → one tokens value → As make one tokens (make value)

abbrev pub choose : Bool → Type 0 → Type 0 → Type 0
choose true here other = here
choose false here other = other
