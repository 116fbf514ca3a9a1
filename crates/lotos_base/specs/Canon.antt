-- What makes a function on terms a canon of the data.
use Rattle.std.specs.Prelude.{◌≡◌, ℕ}
use Rattle.lotos_base.specs.Term.{Term, variable}
use Rattle.lotos_base.specs.Sorting.{HasSort, IsTermOf, IsGroundOf, Occurs}
use Rattle.lotos_base.specs.Substitution.{Substitution, substituted, renaming, KeepsSorts, IsGrounding}
use Rattle.lotos_base.specs.Equation.{Data}
use Rattle.lotos_base.specs.Equality.{Equal}

-- The renaming gives different numbers to different variables of one sort that occur in the term.
abbrev pub KeepsApart : (ℕ → ℕ → ℕ) → Term → Type 0
KeepsApart number t = (n m s : ℕ) → Occurs n s t → Occurs m s t → number n s ≡ number m s → n ≡ m

-- The seven laws of a canon of the data, over the terms of their signature (that on variables over all variables), below
-- the fact that the canon of a term has the term's sort.
pub record IsCanon (data_ : Data) (canon : Term → Term) : Type 0 where
  -- the canon of a term is a term of the same sort
  pub sorts : (t : Term) (s : ℕ) → HasSort data_.signature t s → HasSort data_.signature (canon t) s
  -- each ground instance of the canon of a term equals that instance of the term
  pub instances : (t : Term) (values : Substitution) → IsTermOf data_.signature t
      → IsGrounding data_.signature t values
      → Equal data_ (substituted values (canon t)) (substituted values t)
  -- equal ground terms have one canon
  pub decides : (t u : Term) (s : ℕ) → IsGroundOf data_.signature s t → IsGroundOf data_.signature s u
      → Equal data_ t u → canon t ≡ canon u
  -- the canon of a canon is itself
  pub settled : (t : Term) → IsTermOf data_.signature t → canon (canon t) ≡ canon t
  -- the variables of the canon are among those of the term
  pub occurring : (t : Term) (n s : ℕ) → IsTermOf data_.signature t → Occurs n s (canon t) → Occurs n s t
  -- the canon of a variable is that variable
  pub variables : (n s : ℕ) → canon (variable n s) ≡ variable n s
  -- the canon of an instance is the canon of the instance that puts the canons of the terms into the canon
  pub substitutes : (t : Term) (values : Substitution) → IsTermOf data_.signature t
      → KeepsSorts data_.signature t values
      → canon (substituted values t) ≡ canon (substituted (λ n s. canon (values n s)) (canon t))
  -- the canon of a renamed term is the renamed canon
  pub renames : (t : Term) (number : ℕ → ℕ → ℕ) → IsTermOf data_.signature t → KeepsApart number t
      → canon (substituted (renaming number) t) ≡ substituted (renaming number) (canon t)
