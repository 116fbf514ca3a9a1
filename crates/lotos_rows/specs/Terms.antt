-- Terms:
--
--   term   = factor { opname factor }
--   factor = base [ "of" name ]
--   base   = opname [ "(" term { "," term } ")" ] | "(" term ")"
--
-- Infix operations have one strength and group to the left. A bracketed term is the term inside.
use Rattle.std.specs.Prelude.{ℕ, List, [], ◌∷◌, ◌++◌}
use Rattle.lotos_base.specs.Signature.{prefix_form, infix_form}
use Rattle.lotos_base.specs.WrittenTerm.{PlacedName, WrittenTerm, written, written_terms}
use Rattle.lotos_lexer.specs.declared.kinds.TheConstants.{NAME, COMMA, OF, LEFT_PARENTHESIS, RIGHT_PARENTHESIS}
use Rattle.lotos_lexer.specs.declared.tokens.Token.{Token}
use Rattle.syntax_trees.specs.LeftGrouping.{IsGroupedLeft}
use Rattle.lotos_rows.specs.Words.{IsOfKind}
use Rattle.lotos_rows.specs.Names.{named, IsOperationName}

-- an operation or a variable before its arguments
abbrev pub applied : PlacedName → List WrittenTerm → WrittenTerm
applied name arguments = written (record { place = name.place; name = name.name; form = prefix_form; sorts = [] }) (written_terms arguments)

-- an operation between its arguments, at the place of its name
abbrev pub infix_term : PlacedName → WrittenTerm → WrittenTerm → WrittenTerm
infix_term name left right =
    written (record { place = name.place; name = name.name; form = infix_form; sorts = [] }) (written_terms (left ∷ right ∷ []))

-- the term with one more `of` put on it
abbrev pub of_sort : PlacedName → WrittenTerm → WrittenTerm
of_sort sort (written head arguments) =
    written (record { place = head.place; name = head.name; form = head.form; sorts = head.sorts ++ sort ∷ [] }) arguments

mutual
  -- term = factor { opname factor }
  pub data IsTerm (text : List ℕ) : List Token → WrittenTerm → Type 0 where
    grouped_factors : {tokens : List Token} {factors : List WrittenTerm} {operations : List PlacedName} {term : WrittenTerm} →
        AreFactors text tokens factors operations → IsGroupedLeft infix_term factors operations term → IsTerm text tokens term

  -- factor { opname factor }: the factors, and the operations between them
  pub data AreFactors (text : List ℕ) : List Token → List WrittenTerm → List PlacedName → Type 0 where
    one_factor : {tokens : List Token} {factor : WrittenTerm} → IsFactor text tokens factor → AreFactors text tokens (factor ∷ []) []
    more_factors : {tokens name_tokens rest : List Token} {factor : WrittenTerm} {name : PlacedName} {factors : List WrittenTerm}
        {operations : List PlacedName} →
        IsFactor text tokens factor → IsOperationName text name_tokens name → AreFactors text rest factors operations →
        AreFactors text (tokens ++ name_tokens ++ rest) (factor ∷ factors) (name ∷ operations)

  -- factor = base [ "of" name ]
  pub data IsFactor (text : List ℕ) : List Token → WrittenTerm → Type 0 where
    without_sort : {tokens : List Token} {term : WrittenTerm} → IsBase text tokens term → IsFactor text tokens term
    with_sort : {tokens : List Token} {of sort : Token} {term : WrittenTerm} →
        IsBase text tokens term → IsOfKind OF of → IsOfKind NAME sort →
        IsFactor text (tokens ++ of ∷ sort ∷ []) (of_sort (named text sort) term)

  -- base = opname [ "(" term { "," term } ")" ] | "(" term ")"
  pub data IsBase (text : List ℕ) : List Token → WrittenTerm → Type 0 where
    without_arguments : {tokens : List Token} {name : PlacedName} → IsOperationName text tokens name → IsBase text tokens (applied name [])
    with_arguments : {tokens argument_tokens : List Token} {left right : Token} {name : PlacedName} {arguments : List WrittenTerm} →
        IsOperationName text tokens name → IsOfKind LEFT_PARENTHESIS left → AreTerms text argument_tokens arguments
        → IsOfKind RIGHT_PARENTHESIS right →
        IsBase text (tokens ++ left ∷ (argument_tokens ++ right ∷ [])) (applied name arguments)
    bracketed : {tokens : List Token} {left right : Token} {term : WrittenTerm} →
        IsOfKind LEFT_PARENTHESIS left → IsTerm text tokens term → IsOfKind RIGHT_PARENTHESIS right →
        IsBase text (left ∷ (tokens ++ right ∷ [])) term

  -- term { "," term }
  pub data AreTerms (text : List ℕ) : List Token → List WrittenTerm → Type 0 where
    one_term : {tokens : List Token} {term : WrittenTerm} → IsTerm text tokens term → AreTerms text tokens (term ∷ [])
    more_terms : {tokens rest : List Token} {comma : Token} {term : WrittenTerm} {terms : List WrittenTerm} →
        IsTerm text tokens term → IsOfKind COMMA comma → AreTerms text rest terms → AreTerms text (tokens ++ comma ∷ rest) (term ∷ terms)

-- [ "(" term { "," term } ")" ]
pub data AreArguments (text : List ℕ) : List Token → List WrittenTerm → Type 0 where
  no_arguments : AreArguments text [] []
  some_arguments : {tokens : List Token} {left right : Token} {terms : List WrittenTerm} →
      IsOfKind LEFT_PARENTHESIS left → AreTerms text tokens terms → IsOfKind RIGHT_PARENTHESIS right →
      AreArguments text (left ∷ (tokens ++ right ∷ [])) terms
