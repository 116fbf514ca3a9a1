-- Terms read in numbers, and readings that meet the equations of the data.
use Rattle.std.specs.Prelude.{◌≡◌, ℕ, List, [], ◌∷◌}
use Rattle.lotos_base.specs.Term.{Term, variable, node, Terms, no_terms, term_then}
use Rattle.lotos_base.specs.Substitution.{Substitution, substituted}
use Rattle.lotos_base.specs.Equation.{Equation, Data, IsEquation, IsGroundInstance}

abbrev mutual
  -- The number that a term means, by what each operation does with the numbers of its arguments. A variable counts
  -- as 0.
  pub interpretation : (ℕ → List ℕ → ℕ) → Term → ℕ
  interpretation operate (variable n s) = 0
  interpretation operate (node f ts) = operate f (meanings operate ts)

  -- The numbers that the terms mean.
  pub meanings : (ℕ → List ℕ → ℕ) → Terms → List ℕ
  meanings operate no_terms = []
  meanings operate (term_then t ts) = interpretation operate t ∷ meanings operate ts

-- The reading meets the equations of the data: the two sides of each ground instance mean the same number.
abbrev pub MeetsEquations : Data → (ℕ → List ℕ → ℕ) → Type 0
MeetsEquations data_ operate = (equation : Equation) (values : Substitution) → IsEquation data_ equation
    → IsGroundInstance data_.signature equation values
    → interpretation operate (substituted values equation.left) ≡ interpretation operate (substituted values equation.right)
