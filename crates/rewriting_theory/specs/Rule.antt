-- Rewrite rules: pairs of terms, of which the left one is replaced by the right one (Baader and Nipkow, 4.2).
use Rattle.std.specs.Prelude.{◌≡◌, ◌⊎◌, ℕ, List, Some, slice_get}
use Rattle.lotos_base.specs.Term.{Term, variable, node}
use Rattle.lotos_base.specs.Sorting.{Occurs}
use Rattle.lotos_base.specs.Equation.{Equation, Data, IsEquation, HasSortedSides}
use Rattle.lotos_base.specs.Equality.{Direction, old_side, new_side}

-- A rule has two sides. Its left side is replaced by its right side.
pub record Rule : Type 0 where
  pub left : Term
  pub right : Term

-- The rule stands among the rules at this number, counted from 0.
abbrev pub IsRuleAt : List Rule → ℕ → Rule → Type 0
IsRuleAt rules number rule = slice_get rules number ≡ Some rule

-- The rule is one of the rules.
abbrev pub IsRule : List Rule → Rule → Type 0
IsRule rules rule = (number : ℕ) × IsRuleAt rules number rule

-- The term is an operation on arguments, and no variable.
abbrev pub IsNode : Term → Type 0
IsNode (variable n s) = ⊥
IsNode (node f ts) = Unit {0}

-- A rule is well formed: its left side is no variable, and each variable of its right side occurs in its left side.
pub record IsWellFormedRule (rule : Rule) : Type 0 where
  pub left_node : IsNode rule.left
  pub occurring : (n s : ℕ) → Occurs n s rule.right → Occurs n s rule.left

-- Each of the rules is well formed.
abbrev pub AreWellFormedRules : List Rule → Type 0
AreWellFormedRules rules = (rule : Rule) → IsRule rules rule → IsWellFormedRule rule

-- The rule is the equation, read in this direction.
pub record IsTurned (direction : Direction) (equation : Equation) (rule : Rule) : Type 0 where
  pub left : rule.left ≡ old_side direction equation
  pub right : rule.right ≡ new_side direction equation

-- Each rule is an equation of the data, read in one of the two directions, and each equation of the data whose sides
-- differ is one of the rules.
pub record AreRulesOf (data_ : Data) (rules : List Rule) : Type 0 where
  pub rules_turned : (rule : Rule) → IsRule rules rule
      → (equation : Equation) × (direction : Direction) × IsEquation data_ equation × IsTurned direction equation rule
  pub equations_kept : (equation : Equation) → IsEquation data_ equation
      → (equation.left ≡ equation.right)
      ⊎ ((rule : Rule) × (direction : Direction) × IsRule rules rule × IsTurned direction equation rule)

-- The rules are well-formed rules of the data, whose equations have sides of one sort.
pub record AreSortedRulesOf (data_ : Data) (rules : List Rule) : Type 0 where
  pub sorted_sides : HasSortedSides data_
  pub rules_of_data : AreRulesOf data_ rules
  pub well_formed : AreWellFormedRules rules
