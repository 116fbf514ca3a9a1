-- The parts of equations.
use Rattle.std.specs.Prelude.{ℕ, ◌==◌, List, [], ◌∷◌, ◌++◌, Option, Some, None}
use Rattle.lotos_base.specs.WrittenTerm.{WrittenTerm}
use Rattle.lotos_lexer.specs.declared.kinds.TheConstants.{COMMA, SEMICOLON, EQUALS, IMPLIES}
use Rattle.lotos_lexer.specs.declared.tokens.Token.{Token}
use Rattle.lotos_rows.specs.declared.equations.TheConstants as equations
use Rattle.syntax_trees.specs.WrittenEquation.{WrittenPremiss, WrittenEquation}
use Rattle.lotos_rows.specs.Words.{IsOfKind, Optional, Many, Behind}
use Rattle.lotos_rows.specs.Names.{place_of}
use Rattle.lotos_rows.specs.Terms.{IsTerm}
use Rattle.lotos_rows.specs.Equations.{IsPremiss, IsWrittenEquation, IsEquationList, AreForAll, IsEquationGroup}
use Rattle.tree_building.specs.Meaning.{Meaning, PlainConclusion, PlainAfterTerm, some_variables, some_groups, some_equations, an_equation, a_conclusion, maybe_conclusion, after_term, a_premiss, maybe_term}
use Rattle.tree_building.specs.PartSentences.{As, choose}

-- one, or nothing
pub data Perhaps {A : Type 0} (one : List Token → A → Type 0) : List Token → Option A → Type 0 where
  not_there : Perhaps one [] None
  is_there : {tokens : List Token} {value : A} → one tokens value → Perhaps one tokens (Some value)

-- what may stand behind an equation: a semicolon and further equations
pub data IsEquationEnd (text : List ℕ) : List Token → List WrittenEquation → Type 0 where
  ends_without : IsEquationEnd text [] []
  ends_with_semicolon : {semicolon : Token} {tokens : List Token} {equations : List WrittenEquation} →
      IsOfKind SEMICOLON semicolon → Optional [] (IsEquationList text) tokens equations → IsEquationEnd text (semicolon ∷ tokens) equations

-- the end of an equation with premisses
pub data IsConclusion (text : List ℕ) : List Token → PlainConclusion → Type 0 where
  implied : {arrow equals : Token} {left_tokens tokens : List Token} {left right : WrittenTerm} →
      IsOfKind IMPLIES arrow → IsTerm text left_tokens left → IsOfKind EQUALS equals → IsTerm text tokens right →
      IsConclusion text (arrow ∷ (left_tokens ++ equals ∷ tokens))
      (record { premisses = []; arrow = place_of arrow; left = left; right = right })
  behind_premiss : {comma : Token} {tokens rest : List Token} {premiss : WrittenPremiss} {conclusion : PlainConclusion} →
      IsOfKind COMMA comma → IsPremiss text tokens premiss → IsConclusion text rest conclusion →
      IsConclusion text (comma ∷ (tokens ++ rest))
      (record { premisses = premiss ∷ conclusion.premisses; arrow = conclusion.arrow; left = conclusion.left; right = conclusion.right })

-- what stands behind the first term of an equation
pub data IsAfterTerm (text : List ℕ) : List Token → PlainAfterTerm → Type 0 where
  right_side : {equals : Token} {tokens rest : List Token} {right : WrittenTerm} {conclusion : Option PlainConclusion} →
      IsOfKind EQUALS equals → IsTerm text tokens right → Perhaps (IsConclusion text) rest conclusion →
      IsAfterTerm text (equals ∷ (tokens ++ rest)) (record { right = Some right; conclusion = conclusion })
  only_conclusion : {tokens : List Token} {conclusion : PlainConclusion} → IsConclusion text tokens conclusion →
      IsAfterTerm text tokens (record { right = None; conclusion = Some conclusion })

abbrev pub equations_part : List ℕ → ℕ → List Token → Meaning → Type 0
equations_part text p tokens meaning =
    choose (p == equations.VARIABLES_FOR_ALL) (As some_variables (AreForAll text) tokens meaning)
    (choose (p == equations.EQUATION_GROUPS) (As some_groups (Many (IsEquationGroup text)) tokens meaning)
    (choose (p == equations.EQUATION_LIST) (As some_equations (Optional [] (IsEquationList text)) tokens meaning)
    (choose (p == equations.AFTER_EQUATION) (As some_equations (IsEquationEnd text) tokens meaning)
    (choose (p == equations.EQUATION) (As an_equation (IsWrittenEquation text) tokens meaning)
    (choose (p == equations.AFTER_FIRST_TERM) (As after_term (IsAfterTerm text) tokens meaning)
    (choose (p == equations.AFTER_FIRST_PAIR) (As maybe_conclusion (Perhaps (IsConclusion text)) tokens meaning)
    (choose (p == equations.CONCLUSION) (As a_conclusion (IsConclusion text) tokens meaning)
    (choose (p == equations.PREMISS) (As a_premiss (IsPremiss text) tokens meaning)
    (As maybe_term (Perhaps (Behind EQUALS (IsTerm text))) tokens meaning)))))))))
