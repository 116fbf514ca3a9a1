-- Equations and premisses:
--
--   eqns     = ["forall" vars] { "ofsort" name ["forall" vars] [eqlist] }
--   eqlist   = equation [ ";" [eqlist] ]
--   equation = term "=" term | premiss { "," premiss } "=>" term "=" term
--   premiss  = term ["=" term]
--
-- An equation and a premiss are placed at their first token.
use Rattle.std.specs.Prelude.{ℕ, List, [], ◌∷◌, ◌++◌, Some, None}
use Rattle.lotos_base.specs.WrittenTerm.{WrittenTerm}
use Rattle.lotos_lexer.specs.declared.kinds.TheConstants.{NAME, COMMA, SEMICOLON, EQUALS, IMPLIES, FORALL, OFSORT}
use Rattle.lotos_lexer.specs.declared.tokens.Token.{Token}
use Rattle.syntax_trees.specs.WrittenVariable.{WrittenVariable}
use Rattle.syntax_trees.specs.WrittenEquation.{WrittenPremiss, WrittenEquation, WrittenGroup, WrittenEquations}
use Rattle.lotos_rows.specs.Words.{IsOfKind, Optional, Many, Separated, Behind}
use Rattle.lotos_rows.specs.Names.{place_of, spelled, AreVariables}
use Rattle.lotos_rows.specs.Terms.{IsTerm}

-- premiss = term ["=" term]
pub data IsPremiss (text : List ℕ) : List Token → WrittenPremiss → Type 0 where
  true_term : {first : Token} {rest : List Token} {term : WrittenTerm} →
      IsTerm text (first ∷ rest) term →
      IsPremiss text (first ∷ rest) (record { place = place_of first; left = term; right = None })
  equal_terms : {first equals : Token} {rest tokens : List Token} {left right : WrittenTerm} →
      IsTerm text (first ∷ rest) left → IsOfKind EQUALS equals → IsTerm text tokens right →
      IsPremiss text (first ∷ (rest ++ equals ∷ tokens)) (record { place = place_of first; left = left; right = Some right })

-- equation = term "=" term | premiss { "," premiss } "=>" term "=" term
pub data IsWrittenEquation (text : List ℕ) : List Token → WrittenEquation → Type 0 where
  without_premisses : {first equals : Token} {rest tokens : List Token} {left right : WrittenTerm} →
      IsTerm text (first ∷ rest) left → IsOfKind EQUALS equals → IsTerm text tokens right →
      IsWrittenEquation text (first ∷ (rest ++ equals ∷ tokens))
      (record { place = place_of first; premisses = []; arrow = None; left = left; right = right })
  with_premisses : {first arrow equals : Token} {rest left_tokens tokens : List Token} {premisses : List WrittenPremiss}
      {left right : WrittenTerm} →
      Separated COMMA (IsPremiss text) (first ∷ rest) premisses → IsOfKind IMPLIES arrow →
      IsTerm text left_tokens left → IsOfKind EQUALS equals → IsTerm text tokens right →
      IsWrittenEquation text (first ∷ (rest ++ arrow ∷ (left_tokens ++ equals ∷ tokens)))
      (record { place = place_of first; premisses = premisses; arrow = Some (place_of arrow); left = left; right = right })

-- eqlist = equation [ ";" [eqlist] ]
pub data IsEquationList (text : List ℕ) : List Token → List WrittenEquation → Type 0 where
  last_equation : {tokens : List Token} {equation : WrittenEquation} →
      IsWrittenEquation text tokens equation → IsEquationList text tokens (equation ∷ [])
  ended_equation : {tokens : List Token} {semicolon : Token} {equation : WrittenEquation} →
      IsWrittenEquation text tokens equation → IsOfKind SEMICOLON semicolon → IsEquationList text (tokens ++ semicolon ∷ []) (equation ∷ [])
  more_equations : {tokens rest : List Token} {semicolon : Token} {equation : WrittenEquation} {equations : List WrittenEquation} →
      IsWrittenEquation text tokens equation → IsOfKind SEMICOLON semicolon → IsEquationList text rest equations →
      IsEquationList text (tokens ++ semicolon ∷ rest) (equation ∷ equations)

-- ["forall" vars]
abbrev pub AreForAll : List ℕ → List Token → List WrittenVariable → Type 0
AreForAll text = Optional [] (Behind FORALL (AreVariables text))

-- "ofsort" name ["forall" vars] [eqlist]
pub data IsEquationGroup (text : List ℕ) : List Token → WrittenGroup → Type 0 where
  group_of_sort : {word sort : Token} {variable_tokens tokens : List Token} {variables : List WrittenVariable}
      {equations : List WrittenEquation} →
      IsOfKind OFSORT word → IsOfKind NAME sort → AreForAll text variable_tokens variables
      → Optional [] (IsEquationList text) tokens equations →
      IsEquationGroup text (word ∷ sort ∷ (variable_tokens ++ tokens))
      (record { place = place_of sort; sort = spelled text sort; variables = variables; equations = equations })

-- eqns = ["forall" vars] { "ofsort" name ["forall" vars] [eqlist] }
pub data AreEquations (text : List ℕ) : List Token → WrittenEquations → Type 0 where
  equations : {variable_tokens tokens : List Token} {variables : List WrittenVariable} {groups : List WrittenGroup} →
      AreForAll text variable_tokens variables → Many (IsEquationGroup text) tokens groups →
      AreEquations text (variable_tokens ++ tokens) (record { variables = variables; groups = groups })
