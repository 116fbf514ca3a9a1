-- Names, lists of them, variables, and operations by name:
--
--   gates  = "[" names "]"
--   params = "(" vars ")"
--   names  = name { "," name }
--   vars   = names ":" name { "," names ":" name }
--   list   = name { [","] name }
--   opname = name | digit name | sign name
--   op     = opname | "_" opname "_"
use Rattle.std.specs.Prelude.{ℕ, List, [], ◌∷◌, ◌++◌, map, flat_map, slice_range}
use Rattle.lotos_base.specs.Signature.{Form, prefix_form, infix_form}
use Rattle.lotos_base.specs.Equation as plain
use Rattle.lotos_base.specs.WrittenTerm.{PlacedName}
use Rattle.lotos_base.specs.WrittenView.{text_place_of}
use Rattle.lotos_lexer.specs.declared.kinds.TheConstants.{NAME, DIGIT_NAME, SIGN_NAME, COMMA, COLON, UNDERSCORE, ARROW, LEFT_BRACKET, RIGHT_BRACKET, LEFT_PARENTHESIS, RIGHT_PARENTHESIS}
use Rattle.lotos_lexer.specs.declared.tokens.Token.{Token}
use Rattle.syntax_trees.specs.WrittenVariable.{WrittenVariable}
use Rattle.lotos_rows.specs.Words.{IsOfKind, Optional, Separated, Loosely, Between}

-- where a token stands
abbrev pub place_of : Token → plain.Place
place_of token = text_place_of token.place

-- a token's bytes in its text
abbrev pub spelled : List ℕ → Token → List ℕ
spelled text token = slice_range text token.first token.past

-- the name that a token of the text is
abbrev pub named : List ℕ → Token → PlacedName
named text token = record { place = place_of token; name = spelled text token }

-- name
pub data IsName (text : List ℕ) : List Token → PlacedName → Type 0 where
  a_name : {name : Token} → IsOfKind NAME name → IsName text (name ∷ []) (named text name)

-- names = name { "," name }
abbrev pub AreNames : List ℕ → List Token → List PlacedName → Type 0
AreNames text = Separated COMMA (IsName text)

-- [names]
abbrev pub AreOptionalNames : List ℕ → List Token → List PlacedName → Type 0
AreOptionalNames text = Optional [] (AreNames text)

-- gates = "[" names "]"
abbrev pub AreWrittenGates : List ℕ → List Token → List PlacedName → Type 0
AreWrittenGates text = Between LEFT_BRACKET RIGHT_BRACKET (AreNames text)

-- [gates]
abbrev pub AreOptionalGates : List ℕ → List Token → List PlacedName → Type 0
AreOptionalGates text = Optional [] (AreWrittenGates text)

-- list = name { [","] name }
abbrev pub AreLooseNames : List ℕ → List Token → List PlacedName → Type 0
AreLooseNames text = Loosely COMMA (IsName text)

-- a variable for each of the names, with the sort
abbrev pub variables_of_sort : List PlacedName → PlacedName → List WrittenVariable
variables_of_sort names sort = map (λ variable. record {
  place = variable.place;
  name = variable.name;
  sort = sort.name;
  sort_place =
      sort.place;
}) names

-- names ":" name
pub data AreVariablesOfSort (text : List ℕ) : List Token → List WrittenVariable → Type 0 where
  of_sort : {tokens : List Token} {colon sort : Token} {names : List PlacedName} →
      AreNames text tokens names → IsOfKind COLON colon → IsOfKind NAME sort →
      AreVariablesOfSort text (tokens ++ colon ∷ sort ∷ []) (variables_of_sort names (named text sort))

-- vars = names ":" name { "," names ":" name }
pub data AreVariables (text : List ℕ) : List Token → List WrittenVariable → Type 0 where
  variables : {tokens : List Token} {groups : List (List WrittenVariable)} →
      Separated COMMA (AreVariablesOfSort text) tokens groups → AreVariables text tokens (flat_map (λ group. group) groups)

-- params = "(" vars ")"
abbrev pub AreParameters : List ℕ → List Token → List WrittenVariable → Type 0
AreParameters text = Between LEFT_PARENTHESIS RIGHT_PARENTHESIS (AreVariables text)

-- opname = name | digit name | sign name
pub data IsOperationName (text : List ℕ) : List Token → PlacedName → Type 0 where
  word_name : {name : Token} → IsOfKind NAME name → IsOperationName text (name ∷ []) (named text name)
  digit_name : {name : Token} → IsOfKind DIGIT_NAME name → IsOperationName text (name ∷ []) (named text name)
  sign_name : {name : Token} → IsOfKind SIGN_NAME name → IsOperationName text (name ∷ []) (named text name)

-- an operation by its name, with the form that the underscores give it
pub record NamedOperation : Type 0 where
  pub name : PlacedName
  pub form : Form

-- op = opname | "_" opname "_"
pub data IsWrittenOperation (text : List ℕ) : List Token → NamedOperation → Type 0 where
  of_prefix_form : {tokens : List Token} {name : PlacedName} →
      IsOperationName text tokens name → IsWrittenOperation text tokens (record { name = name; form = prefix_form })
  of_infix_form : {left right : Token} {tokens : List Token} {name : PlacedName} →
      IsOfKind UNDERSCORE left → IsOperationName text tokens name → IsOfKind UNDERSCORE right →
      IsWrittenOperation text (left ∷ (tokens ++ right ∷ [])) (record { name = name; form = infix_form })

-- the sorts of an operation: those of its arguments, and that of its result
pub record PlacedProfile : Type 0 where
  pub arguments : List PlacedName
  pub result : PlacedName

-- ":" [names] "->" name
pub data IsProfile (text : List ℕ) : List Token → PlacedProfile → Type 0 where
  profile : {colon arrow sort : Token} {tokens : List Token} {arguments : List PlacedName} →
      IsOfKind COLON colon → AreOptionalNames text tokens arguments → IsOfKind ARROW arrow → IsOfKind NAME sort →
      IsProfile text (colon ∷ (tokens ++ arrow ∷ sort ∷ [])) (record { arguments = arguments; result = named text sort })
