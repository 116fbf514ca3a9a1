-- Where variables stand: the places that a table has for a number, and when they are all that there are.
use Rattle.std.specs.Prelude.{◌≡◌, ◌<◌, ℕ, List, [], Some, length, slice_get}
use Rattle.std.specs.Option.{option_map_or}
use Rattle.lotos_base.specs.Sorting.{Occurs, OccursAmong}
use Rattle.lotos_base.specs.Term.{Term, Terms}
use Rattle.behaviour_semantics.specs.Behaviour.{Test}
use Rattle.draft_solving.specs.Conditions.{OccursInCondition}
use Rattle.draft_solving.specs.declared.places.Places.{Places}

-- the places at a number, none past the table
abbrev pub noted_at : Places → ℕ → List ℕ
noted_at places n = option_map_or (λ list. list.items) (slice_get places.lists.items n) []

-- how many numbers the table has
abbrev pub room : Places → ℕ
room places = length places.lists.items

-- The place stands in the list.
abbrev pub HoldsPlace : List ℕ → ℕ → Type 0
HoldsPlace list place = (i : ℕ) × (slice_get list i ≡ Some place)

-- The place is noted at each variable of the term, of the terms, of the condition, whose number the table has.
abbrev pub IsNoted : Places → ℕ → Term → Type 0
IsNoted places place t = (n s : ℕ) → Occurs n s t → n < room places → HoldsPlace (noted_at places n) place

abbrev pub AreNoted : Places → ℕ → Terms → Type 0
AreNoted places place ts = (n s : ℕ) → OccursAmong n s ts → n < room places → HoldsPlace (noted_at places n) place

abbrev pub IsTestNoted : Places → ℕ → Test → Type 0
IsTestNoted places place test = (n s : ℕ) → OccursInCondition n s test → n < room places → HoldsPlace (noted_at places n) place

-- Each place of the list is noted at each variable of the condition that stands there.
abbrev pub AreAllNoted : Places → List Test → Type 0
AreAllNoted places tests = (k : ℕ) (test : Test) → slice_get tests k ≡ Some test → IsTestNoted places k test

-- What was noted is noted still.
pub record KeepsPlaces (old now : Places) : Type 0 where
  pub size : room now ≡ room old
  pub kept : (n place : ℕ) → HoldsPlace (noted_at old n) place → HoldsPlace (noted_at now n) place
