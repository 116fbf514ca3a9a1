-- Environments under binders.
use Rattle.std.specs.Prelude.{◌≡◌, ◌≤◌, ◌++◌, ℕ, List, length, zip}
use Rattle.lotos_base.specs.Term.{Term}
use Rattle.lotos_base.specs.Sorting.{Occurs}
use Rattle.lotos_base.specs.Equation.{Variable}
use Rattle.lotos_base.specs.Substitution.{substituted, binding, without}
use Rattle.behaviour_semantics.specs.Behaviour.{Behaviour, numbers_of}
use Rattle.behaviour_semantics.specs.Draft.{above, above_variables}
use Rattle.behaviour_semantics.specs.Replacement.{with_values, binding_of}
use Rattle.behaviour_semantics.specs.WellFormed.{Every}

-- The variables of the terms of the pairs have numbers from `base` on.
abbrev pub ArePairsFrom : ℕ → List (ℕ × Term) → Type 0
ArePairsFrom base pairs = Every (λ (pair : ℕ × Term). (n s : ℕ) → Occurs n s pair.1 → base ≤ n) pairs

-- the values of an environment put in under a binder, and then terms for the variables that it binds, are put in by the
-- environment with the pairs of these variables before it, in a term and in a behaviour
pub record EnvironmentsNest : Type 0 where
  pub in_terms :
      (base : ℕ) (variables : List Variable) (terms : List Term) (pairs : List (ℕ × Term)) (t : Term) →
      above_variables variables ≤ base →
      length terms ≡ length variables →
      ArePairsFrom base pairs →
      substituted (binding_of variables terms) (substituted (without (numbers_of variables) (binding pairs)) t)
      ≡ substituted (binding (zip (numbers_of variables) terms ++ pairs)) t
  pub in_behaviours :
      (base : ℕ) (variables : List Variable) (terms : List Term) (pairs : List (ℕ × Term)) (b : Behaviour) →
      above b ≤ base →
      above_variables variables ≤ base →
      length terms ≡ length variables →
      ArePairsFrom base pairs →
      with_values (binding_of variables terms) (with_values (without (numbers_of variables) (binding pairs)) b)
      ≡ with_values (binding (zip (numbers_of variables) terms ++ pairs)) b
