-- A draft on the way to its outcome: its terms spread, under other numbers for its variables.
use Rattle.std.specs.Prelude.{◌≡◌, ◌<◌, ℕ, List, map, length, slice_get, Some}
use Rattle.lotos_base.specs.Equation.{Data}
use Rattle.lotos_base.specs.Term.{Term}
use Rattle.behaviour_semantics.specs.Behaviour.{Test}
use Rattle.behaviour_semantics.specs.Replacement.{test_with}
use Rattle.behaviour_semantics.specs.Draft.{Draft}
use Rattle.behaviour_semantics.specs.DraftOrder.{IsInOrder}
use Rattle.behaviour_semantics.specs.Solving.{canonical, test_in}
use Rattle.behaviour_semantics.proofs.SolvingSteps.{SameOutcomes}
use Rattle.draft_solving.specs.Conditions.{StandsIn}
use Rattle.draft_solving.specs.Naming.{name_for, naming}
use Rattle.draft_solving.specs.Spreading.{spread_of}

-- the draft with all its terms among the conditions
abbrev pub spread_draft : Draft → Draft
spread_draft start = record start { conditions = spread_of start }

-- Each term of the draft was changed in one way, by which the list of them came to be, and the draft has the outcomes of what it
-- is now, which is in canonical form.
pub record IsOnTheWay (data_ : Data) (canon : Term → Term) (start : Draft) (actual : List Test) : Type 0 where
  pub change : Term → Term
  pub told : actual ≡ map (test_in change) (spread_of start)
  pub order : IsInOrder data_.signature (canonical change (spread_draft start))
  pub alike : SameOutcomes canon start (canonical change (spread_draft start))
  pub settled : canonical canon (canonical change (spread_draft start)) ≡ canonical change (spread_draft start)

-- the conditions with their variables named
abbrev pub named_tests : List ℕ → List Test → List Test
named_tests names tests = map (test_with (naming names)) tests

-- The named conditions are on the way; the conditions themselves are in canonical form, and different variables of theirs have
-- different names.
pub record IsNamedWay (data_ : Data) (canon : Term → Term) (start : Draft) (names : List ℕ) (tests : List Test) : Type 0 where
  pub way : IsOnTheWay data_ canon start (named_tests names tests)
  pub canonical_sides : (k : ℕ) (test : Test) → slice_get tests k ≡ Some test
      → (canon test.left ≡ test.left) × (canon test.right ≡ test.right)
  pub apart : (n m r s : ℕ) → StandsIn tests n r → StandsIn tests m s → name_for names n ≡ name_for names m → n ≡ m
  pub below : (n s : ℕ) → StandsIn tests n s → n < length names
