-- Variables numbered by first appearance: read from left to right, the first variable has the number 0, and each one that
-- was not met before has the next number.
use Rattle.std.specs.Prelude.{◌≡◌, ◌<◌, ℕ, List, [], ◌∷◌, ◌++◌, Some, slice_get}
use Rattle.lotos_base.specs.Term.{Term, variable, node, Terms, no_terms, term_then}
use Rattle.lotos_base.specs.Sorting.{Occurs}

abbrev mutual
  -- The numbers of the variables of the term, from left to right, each as often as it stands there.
  pub variable_numbers : Term → List ℕ
  variable_numbers (variable n s) = n ∷ []
  variable_numbers (node f ts) = all_variable_numbers ts

  -- Those of the terms of a list.
  pub all_variable_numbers : Terms → List ℕ
  all_variable_numbers no_terms = []
  all_variable_numbers (term_then t ts) = variable_numbers t ++ all_variable_numbers ts

-- Before a number stand all smaller ones. So the first one is 0, and one that was not met before is the next one.
abbrev pub IsByAppearance : List ℕ → Type 0
IsByAppearance numbers = (i n m : ℕ) → slice_get numbers i ≡ Some n → m < n
    → (j : ℕ) × (j < i) × (slice_get numbers j ≡ Some m)

-- The variables of the term are numbered by first appearance, different ones differently.
pub record IsNumbered (t : Term) : Type 0 where
  pub by_appearance : IsByAppearance (variable_numbers t)
  pub one_sort : (n r s : ℕ) → Occurs n r t → Occurs n s t → r ≡ s
