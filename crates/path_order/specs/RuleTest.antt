-- A test that computes whether rules are those of equations, for facts that are kept beside code.
use Rattle.std.specs.Prelude.{◌≡◌, ◌↔◌, ℕ, suc, Bool, true, false, ◌&&◌, ◌||◌, nat_eq, List, [], ◌∷◌, if◌then◌else◌}
use Rattle.lotos_base.specs.Tests.{term_eq}
use Rattle.lotos_base.specs.Equation.{Equation}
use Rattle.rewriting_theory.specs.Rule.{Rule}
use Rattle.rewriting_theory.specs.Precedence.{Precedence}
use Rattle.rewriting_theory.specs.Orientation.{NumberedRule, GiveRules}
use Rattle.rewriting_theory.specs.OrderTest.{is_greater}

-- whether the rule is the equation in one of the two directions, and its left side is greater
abbrev pub is_turned_so : Precedence → Equation → Rule → Bool
is_turned_so precedence equation rule =
    ((term_eq rule.left equation.left && term_eq rule.right equation.right)
    || (term_eq rule.left equation.right && term_eq rule.right equation.left))
    && is_greater precedence rule.left rule.right

-- whether the first of the rules is that of the equation, and the rest pass a test
abbrev pub next_gives : Precedence → ℕ → Equation → (List NumberedRule → Bool) → List NumberedRule → Bool
next_gives precedence n equation rest_gives [] = false
next_gives precedence n equation rest_gives (first ∷ rules) =
    (nat_eq first.equation n && is_turned_so precedence equation first.rule) && rest_gives rules

-- whether the equations, of which the first one has this number, give these rules
abbrev pub gives_rules : Precedence → ℕ → List Equation → List NumberedRule → Bool
gives_rules precedence n [] [] = true
gives_rules precedence n [] (first ∷ rules) = false
gives_rules precedence n (equation ∷ equations) rules =
    if term_eq equation.left equation.right then gives_rules precedence (suc n) equations rules
    else next_gives precedence n equation (gives_rules precedence (suc n) equations) rules

-- the test tells the rules that are given
abbrev pub GivenRulesAreTested : Type 0
GivenRulesAreTested = (precedence : Precedence) (n : ℕ) (equations : List Equation) (rules : List NumberedRule)
    → (gives_rules precedence n equations rules ≡ true) ↔ GiveRules precedence n equations rules
