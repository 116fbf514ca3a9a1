-- Requirements: which lemma of a certificate meets an equation, and that an equation holds by induction.
use Rattle.std.specs.Prelude.{◌≡◌, ◌<◌, ℕ, List, Some, slice_get}
use Rattle.lotos_base.specs.Sorting.{Occurs}
use Rattle.lotos_base.specs.Substitution.{Substitution, substituted, renaming, IsGrounding}
use Rattle.lotos_base.specs.Equation.{Equation, Data}
use Rattle.lotos_base.specs.Equality.{Equal}
use Rattle.std.specs.Prelude.{◌⊎◌}
use Rattle.certificate_theory.specs.InductionCertificate.{Statement, Lemma}

-- The statement holds by induction: its sides are equal at all ground values, of the right sorts, of the variables that occur
-- in them.
abbrev pub HoldsByInduction : Data → Statement → Type 0
HoldsByInduction data_ statement = (values : Substitution) → IsGrounding data_.signature statement.left values
    → IsGrounding data_.signature statement.right values
    → Equal data_ (substituted values statement.left) (substituted values statement.right)

-- The sides of an equation as a statement.
abbrev pub stated : Equation → Statement
stated equation = record { left = equation.left; right = equation.right }

-- The variable occurs in a side.
abbrev pub OccursInSide : Statement → ℕ → ℕ → Type 0
OccursInSide statement n s = Occurs n s statement.left ⊎ Occurs n s statement.right

-- The second statement is the first one up to the names of variables: a renaming that gives different numbers to different
-- variables of one sort makes it of the first one.
pub record IsRenamedStatement (one other : Statement) : Type 0 where
  pub number : ℕ → ℕ → ℕ
  pub apart : (n m s : ℕ) → OccursInSide one n s → OccursInSide one m s → number n s ≡ number m s → n ≡ m
  pub left : substituted (renaming number) one.left ≡ other.left
  pub right : substituted (renaming number) one.right ≡ other.right

-- The requirement is met by the lemma with this number, from 0: it is the first that is the same equation.
pub record IsMetBy (lemmas : List Lemma) (equation : Equation) (k : ℕ) : Type 0 where
  pub lemma : Lemma
  pub is_lemma : slice_get lemmas k ≡ Some lemma
  pub renamed : IsRenamedStatement lemma.statement (stated equation)
  pub first : (j : ℕ) (earlier : Lemma) → j < k → slice_get lemmas j ≡ Some earlier
      → ¬ IsRenamedStatement earlier.statement (stated equation)

-- The requirement is open: no lemma is the same equation.
abbrev pub IsLeftOpen : List Lemma → Equation → Type 0
IsLeftOpen lemmas equation = (j : ℕ) (lemma : Lemma) → slice_get lemmas j ≡ Some lemma
    → ¬ IsRenamedStatement lemma.statement (stated equation)
