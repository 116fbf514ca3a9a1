-- Worked cases of the words of the type of data.
use Rattle.std.specs.Prelude.{◌≡◌, ℕ, List, [], ◌∷◌, ◌++◌, map, codes}
use Rattle.lotos_lexer.specs.declared.kinds.TheConstants.{NAME, TYPE, IS, SORTS, OPNS, EQNS, OFSORT, FORALL, ENDTYPE, COLON, ARROW, EQUALS, SEMICOLON, LEFT_PARENTHESIS, RIGHT_PARENTHESIS}
use Rattle.flat_text.specs.FlatCases.{no_data, careful_data}
use Rattle.session_laws.specs.PrintedWords.{Word}
use Rattle.session_laws.specs.TypeWords.{type_words}
use Rattle.session_laws.specs.WrittenData.{StandApart}
use Rattle.session_laws.specs.WrittenExample.{constant_data, constant_equation}

-- the words with a blank before each
abbrev pub in_a_row : List Word → List ℕ
in_a_row [] = []
in_a_row (word ∷ words) = codes " " ++ (word.spelling ++ in_a_row words)

pub record TypeExamples : Type 0 where
  -- no type where there are no sorts
  pub none : type_words no_data ≡ []
  -- a constant, an operation and an equation, by their spellings and their kinds
  pub spellings :
      in_a_row (type_words constant_data)
      ≡ codes " type Data is sorts A opns V1 : -> A f : A -> A eqns ofsort A forall v2 : A f ( v2 ) = V1 ; endtype"
  pub kinds :
      map (λ (word : Word). word.kind) (type_words constant_data)
      ≡ TYPE ∷ NAME ∷ IS ∷ SORTS ∷ NAME
      ∷ OPNS ∷ NAME ∷ COLON ∷ ARROW ∷ NAME ∷ NAME ∷ COLON ∷ NAME ∷ ARROW ∷ NAME
      ∷ EQNS ∷ OFSORT ∷ NAME ∷ FORALL ∷ NAME ∷ COLON ∷ NAME
      ∷ NAME ∷ LEFT_PARENTHESIS ∷ NAME ∷ RIGHT_PARENTHESIS ∷ EQUALS ∷ NAME ∷ SEMICOLON ∷ ENDTYPE ∷ []
  -- infix operations stand between underscores, and constants of two sorts have their sort behind them
  pub careful :
      in_a_row (type_words careful_data)
      ≡ codes " type Data is sorts A , B opns V1 : -> A _ * _ : A , A -> A v1 : -> B * : A -> B"
      ++ codes " eqns ofsort A forall v2 : A , v3 : A v2 * ( v3 * V1 of A ) = v3 ;"
      ++ codes " ofsort B * ( V1 of A ) = v1 of B ; endtype"
  -- one equation twice does not stand apart
  pub twice : ¬ StandApart (constant_equation ∷ constant_equation ∷ [])
