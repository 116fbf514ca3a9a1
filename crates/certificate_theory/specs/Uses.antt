-- Uses of lemmas and hypotheses: an instance of one side, at a path of the goal, is replaced by the instance of the other side.
use Rattle.std.specs.Prelude.{◌≡◌, ◌≤◌, ◌⊎◌, ℕ, Some, slice_get}
use Rattle.lotos_base.specs.Term.{Term, variable}
use Rattle.lotos_base.specs.Sorting.{Occurs}
use Rattle.lotos_base.specs.Path.{subterm, put_at}
use Rattle.lotos_base.specs.Substitution.{Substitution, substituted, KeepsSorts}
use Rattle.lotos_base.specs.Equality.{Direction, forward, backward}
use Rattle.certificate_theory.specs.InductionCertificate.{Statement, Side, left_side, right_side, Source, by_lemma, by_hypothesis, Use}
use Rattle.certificate_theory.specs.Splits.{Theory, Case, Proving}

-- The side whose instance a use takes away, and the one whose instance it puts there.
abbrev pub taken_side : Direction → Statement → Term
taken_side forward statement = statement.left
taken_side backward statement = statement.right

abbrev pub placed_side : Direction → Statement → Term
placed_side forward statement = statement.right
placed_side backward statement = statement.left

-- One side of a statement, and the statement with another one there.
abbrev pub side_at : Side → Statement → Term
side_at left_side statement = statement.left
side_at right_side statement = statement.right

abbrev pub with_side : Side → Term → Statement → Statement
with_side left_side t statement = record { left = t; right = statement.right }
with_side right_side t statement = record { left = statement.left; right = t }

-- The statement is the earlier lemma, or the hypothesis, with this number.
abbrev pub IsOfSource : Proving → Case → Source → Statement → Type 0
IsOfSource proving point (by_lemma k) statement = slice_get proving.earlier k ≡ Some statement
IsOfSource proving point (by_hypothesis k) statement = slice_get point.hypotheses k ≡ Some statement

-- The variable stands for itself: it is a fixed one of a hypothesis. All variables of a lemma, and the free ones of a
-- hypothesis, are matched.
abbrev pub StandsForItself : Proving → Source → ℕ → Type 0
StandsForItself proving (by_lemma k) n = ⊥
StandsForItself proving (by_hypothesis k) n = proving.free ≤ n

-- The use makes the goal this one, which is not put in normal form yet.
pub record IsUsed (theory : Theory) (proving : Proving) (point : Case) (use_ : Use) (result : Statement) : Type 0 where
  pub statement : Statement
  pub is_there : IsOfSource proving point use_.source statement
  pub values : Substitution
  -- fixed variables stand for themselves, and the others are given terms of their sorts
  pub fixed : (n s : ℕ) → StandsForItself proving use_.source n → values n s ≡ variable n s
  pub sorted : KeepsSorts theory.data_.signature (taken_side use_.direction statement) values
  -- the match leaves no variable of the other side open
  pub closed : (n s : ℕ) → Occurs n s (placed_side use_.direction statement)
      → StandsForItself proving use_.source n ⊎ Occurs n s (taken_side use_.direction statement)
  pub old : subterm use_.path (side_at use_.side point.goal) ≡ Some (substituted values (taken_side use_.direction statement))
  pub after : Term
  pub new : put_at use_.path (substituted values (placed_side use_.direction statement)) (side_at use_.side point.goal) ≡ Some after
  pub is_result : result ≡ with_side use_.side after point.goal
