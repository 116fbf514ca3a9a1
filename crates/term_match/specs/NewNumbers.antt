-- What new numbers for the variables of a term are to be.
use Rattle.std.specs.Prelude.{◌≡◌, ℕ, List, Some, false, slice_get}
use Rattle.lotos_base.specs.Term.{Term}
use Rattle.lotos_base.specs.Sorting.{Occurs}
use Rattle.lotos_base.specs.Substitution.{substituted, renaming, is_listed}
use Rattle.rewriting_theory.specs.Numbering.{IsNumbered}
use Rattle.term_match.specs.Matched.{TermHasOneSortPerNumber}
use Rattle.term_match.specs.Numbers.{AreDistinctNumbers}
use Rattle.term_match.specs.Renumbering.{old_numbers, new_numbers}

-- Variables of the term with different numbers get different ones.
abbrev pub TellsApart : (ℕ → ℕ → ℕ) → Term → Type 0
TellsApart number t = (n r m s : ℕ) → Occurs n r t → Occurs m s t → number n r ≡ number m s → n ≡ m

-- The numbers are those of the variables by first appearance.
pub record IsByFirstAppearance (number : ℕ → ℕ → ℕ) (t : Term) : Type 0 where
  pub tells_apart : TellsApart number t
  pub numbered : TermHasOneSortPerNumber t → IsNumbered (substituted (renaming number) t)

-- The numbers tell the variables of the second term apart, and no variable of the first term has one of them.
pub record KeepsClear (number : ℕ → ℕ → ℕ) (first second : Term) : Type 0 where
  pub tells_apart : TellsApart number second
  pub clear : (n r q : ℕ) → Occurs n r second → ¬ Occurs (number n r) q first

-- The pairs give these old numbers new ones, no two the same, and none of them taken.
pub record AreFresh (taken olds : List ℕ) (pairs : List (ℕ × ℕ)) : Type 0 where
  pub olds_are : old_numbers pairs ≡ olds
  pub distinct : AreDistinctNumbers (new_numbers pairs)
  pub free : (i n : ℕ) → slice_get (new_numbers pairs) i ≡ Some n → is_listed taken n ≡ false
