-- Orientation: the equations whose sides differ become rules, each turned toward its smaller side (Baader and
-- Nipkow, 7.1).
use Rattle.std.specs.Prelude.{◌≡◌, ◌≢◌, ◌<◌, ℕ, zero, suc, List, [], ◌∷◌, Some, slice_get, map}
use Rattle.lotos_base.specs.Equation.{Equation, Data}
use Rattle.lotos_base.specs.Equality.{Direction}
use Rattle.rewriting_theory.specs.Rule.{Rule, IsRule, IsTurned}
use Rattle.rewriting_theory.specs.Precedence.{Precedence}
use Rattle.rewriting_theory.specs.PathOrder.{IsGreater}

-- The left side of each rule is greater than its right side.
abbrev pub AreOriented : Precedence → List Rule → Type 0
AreOriented precedence rules = (rule : Rule) → IsRule rules rule → IsGreater precedence rule.left rule.right

-- A rule with the number of the equation that it comes from.
pub record NumberedRule : Type 0 where
  pub equation : ℕ
  pub rule : Rule

-- The rules alone, in their order.
abbrev pub rules_of : List NumberedRule → List Rule
rules_of numbered = map (λ (one : NumberedRule). one.rule) numbered

-- The equation, read in this direction, is a rule whose left side is greater.
pub record TurnsToSmaller (precedence : Precedence) (direction : Direction) (equation : Equation) (rule : Rule) : Type 0 where
  pub turned : IsTurned direction equation rule
  pub greater : IsGreater precedence rule.left rule.right

-- The equations, of which the first one has this number, give these rules, in their order: an equation whose sides
-- are identical gives none, each other one is turned toward its smaller side.
pub data GiveRules (precedence : Precedence) : ℕ → List Equation → List NumberedRule → Type 0 where
  no_more : {n : ℕ} → GiveRules precedence n [] []
  dropped : {n : ℕ} {equation : Equation} {equations : List Equation} {rules : List NumberedRule}
      → equation.left ≡ equation.right → GiveRules precedence (suc n) equations rules
      → GiveRules precedence n (equation ∷ equations) rules
  turned_next : {n : ℕ} {equation : Equation} {equations : List Equation} {first : NumberedRule}
      {rules : List NumberedRule} (direction : Direction) → first.equation ≡ n → equation.left ≢ equation.right
      → TurnsToSmaller precedence direction equation first.rule → GiveRules precedence (suc n) equations rules
      → GiveRules precedence n (equation ∷ equations) (first ∷ rules)

-- These are the rules of the data.
abbrev pub IsOrientation : Precedence → Data → List NumberedRule → Type 0
IsOrientation precedence data_ rules = GiveRules precedence zero data_.equations rules

-- The sides of the equation differ, and neither is greater.
pub record IsUnorientable (precedence : Precedence) (equation : Equation) : Type 0 where
  pub differ : equation.left ≢ equation.right
  pub not_left : ¬ IsGreater precedence equation.left equation.right
  pub not_right : ¬ IsGreater precedence equation.right equation.left

-- The equation with this number is the first one that cannot be oriented.
pub record IsFirstUnorientable (precedence : Precedence) (equations : List Equation) (number : ℕ) : Type 0 where
  pub equation : Equation
  pub is_at : slice_get equations number ≡ Some equation
  pub unorientable : IsUnorientable precedence equation
  pub none_before : (k : ℕ) (earlier : Equation) → k < number → slice_get equations k ≡ Some earlier
      → ¬ IsUnorientable precedence earlier
