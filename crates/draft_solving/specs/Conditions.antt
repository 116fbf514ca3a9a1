-- Lists of conditions: where a variable stands in them, one of them changed, those that nothing meets, and those before a place.
use Rattle.std.specs.Prelude.{◌≡◌, ◌<◌, ℕ, zero, suc, List, [], ◌∷◌, Bool, true, false, ◌&&◌, not, None, Some, ◌⊎◌, slice_get}
use Rattle.lotos_base.specs.Sorting.{Occurs}
use Rattle.lotos_base.specs.Term.{Term}
use Rattle.lotos_base.specs.Tests.{is_ground, term_eq}
use Rattle.behaviour_semantics.specs.Behaviour.{Test}
use Rattle.behaviour_semantics.specs.Solving.{replacement_of, test_in}

-- The variable occurs in a side of the condition, and in one of the conditions.
abbrev pub OccursInCondition : ℕ → ℕ → Test → Type 0
OccursInCondition n s test = Occurs n s test.left ⊎ Occurs n s test.right

pub record StandsIn (tests : List Test) (n s : ℕ) : Type 0 where
  pub place : ℕ
  pub test : Test
  pub stands : slice_get tests place ≡ Some test
  pub occurs : OccursInCondition n s test

-- the list with the condition at a place changed
abbrev pub changed_at : (Term → Term) → ℕ → List Test → List Test
changed_at f place [] = []
changed_at f zero (test ∷ tests) = test_in f test ∷ tests
changed_at f (suc place) (test ∷ tests) = test ∷ changed_at f place tests

-- the condition has no variable, and its sides differ
abbrev pub is_unmet : Test → Bool
is_unmet test = (is_ground test.left && is_ground test.right) && not (term_eq test.left test.right)

-- None of the conditions is such a one.
abbrev pub AreOpen : List Test → Type 0
AreOpen tests = (k : ℕ) (test : Test) → slice_get tests k ≡ Some test → is_unmet test ≡ false

-- One of them is.
pub record HasUnmet (tests : List Test) : Type 0 where
  pub place : ℕ
  pub test : Test
  pub stands : slice_get tests place ≡ Some test
  pub unmet : is_unmet test ≡ true

-- No condition before the place gives a replacement.
abbrev pub GiveNoneBefore : ℕ → List Test → Type 0
GiveNoneBefore place tests =
    (k : ℕ) (test : Test) → k < place → slice_get tests k ≡ Some test → replacement_of test.left test.right ≡ None
