-- The variables of an equation that was read: renamed apart, and numbered by first appearance.
use Rattle.std.specs.Prelude.{◌≡◌, ℕ, List, ◌++◌}
use Rattle.lotos_base.specs.Term.{Term}
use Rattle.lotos_base.specs.Equation.{Place, Variable, Equation}
use Rattle.lotos_base.specs.Substitution.{substituted, renaming}
use Rattle.rewriting_theory.specs.Numbering.{variable_numbers, IsByAppearance}
use Rattle.rewriting_theory.specs.Unification.{OccursInEither}
use Rattle.type_definitions.specs.DeclaredEquations.{equation_of_sides}

-- The equation has these two sides but for the numbers of their variables: different variables of the two sides have different
-- numbers; and read from left to right, the left side before the right one, the first variable has the number 0, and each that was
-- not met before the next one.
pub record HasSidesByAppearance (left right : Term) (equation : Equation) : Type 0 where
  pub number : ℕ → ℕ → ℕ
  pub left_is : equation.left ≡ substituted (renaming number) left
  pub right_is : equation.right ≡ substituted (renaming number) right
  pub apart : (n m r s : ℕ) → OccursInEither left right n r → OccursInEither left right m s → number n r ≡ number m s → n ≡ m
  pub by_appearance : IsByAppearance (variable_numbers equation.left ++ variable_numbers equation.right)

-- the equation of any two sides has them so
abbrev pub EquationsNumberByAppearance : Type 0
EquationsNumberByAppearance = (place : Place) (scope : List Variable) (left right : Term)
    → HasSidesByAppearance left right (equation_of_sides place scope left right)
