-- What the lines have given so far, as the code keeps it.
use Rattle.std.specs.Prelude.{◌≡◌, ◌<◌, ℕ, suc, List, [], map, length, get_or, Some, slice_get}
use Rattle.lotos_base.specs.Term.{Term}
use Rattle.lotos_base.specs.Equation.{Data}
use Rattle.behaviour_semantics.specs.Behaviour.{Behaviour, stop}
use Rattle.behaviour_semantics.specs.WellFormed.{Every}
use Rattle.behaviour_tree.specs.DefinitionView.{specification_of}
use Rattle.behaviour_tree.specs.declared.definitions.Spec.{Spec}
use Rattle.certificate_theory.specs.Certificate.{CertificateFault, open_menu, Comparison, ListedPair, Reading as PlainReading}
use Rattle.menu_builder.specs.HandedOn.{Entry, Menu, menu_entries}
use Rattle.bisim_check.specs.Surveys.{AreSurveyed, behaviours_in}
use Rattle.bisim_check.specs.declared.readings.Listed.{Listed}
use Rattle.bisim_check.specs.declared.readings.Reading.{Reading}
use Rattle.bisim_check.specs.declared.surveys.Surveyed.{Surveyed}

-- what is compared
abbrev pub comparison_of : Data → (Term → Term) → Spec → Spec → Behaviour → Behaviour → Comparison
comparison_of data_ canon left right left_start right_start = record {
  data_ = data_;
  canon = canon;
  left = specification_of left;
  right = specification_of right;
  left_start = left_start;
  right_start = right_start;
}

-- the state with this number; where there is none, `stop`
abbrev pub behaviour_at : List Surveyed → ℕ → Behaviour
behaviour_at states number = get_or (behaviours_in states) number stop

-- the listed pair, those of a list, and what the lines have given
abbrev pub pair_among : List Surveyed → List Surveyed → Listed → ListedPair
pair_among lefts rights listed =
    record { line = listed.line; left = behaviour_at lefts listed.left; right = behaviour_at rights listed.right }

abbrev pub pairs_among : List Surveyed → List Surveyed → List Listed → List ListedPair
pairs_among lefts rights pairs = map (pair_among lefts rights) pairs

abbrev pub listed_pairs_in : Reading → List ListedPair
listed_pairs_in reading = pairs_among reading.lefts.items reading.rights.items reading.pairs.items

abbrev pub reading_of : Reading → PlainReading
reading_of reading = record {
  lefts = behaviours_in reading.lefts.items;
  rights = behaviours_in reading.rights.items;
  pairs = listed_pairs_in reading;
}

-- No entry of the menu has a variable.
abbrev pub IsClosedOne : Entry → Type 0
IsClosedOne entry = entry.vars.items ≡ []

abbrev pub HasClosedEntries : Menu → Type 0
HasClosedEntries menu = Every IsClosedOne (menu_entries menu)

-- The state with this number, in whose menu no entry has a variable.
pub record HasClosedState (states : List Surveyed) (number : ℕ) : Type 0 where
  pub surveyed : Surveyed
  pub there : slice_get states number ≡ Some surveyed
  pub closed : HasClosedEntries surveyed.menu

-- The states of the pair are there, and no entry of their menus has a variable.
pub record IsListedPair (lefts rights : List Surveyed) (listed : Listed) : Type 0 where
  pub left : HasClosedState lefts listed.left
  pub right : HasClosedState rights listed.right

abbrev pub AreListedIn : List Surveyed → List Surveyed → List Listed → Type 0
AreListedIn lefts rights pairs = Every (IsListedPair lefts rights) pairs

-- All that the lines have given is so, and the states are surveyed.
pub record IsKeptReading (data_ : Data) (canon : Term → Term) (left right : Spec) (reading : Reading) : Type 0 where
  pub lefts : AreSurveyed data_ canon left reading.lefts.items
  pub rights : AreSurveyed data_ canon right reading.rights.items
  pub pairs : AreListedIn reading.lefts.items reading.rights.items reading.pairs.items

-- The states of each pair are there.
pub record IsPlacedPair (reading : Reading) (listed : Listed) : Type 0 where
  pub left : listed.left < length reading.lefts.items
  pub right : listed.right < length reading.rights.items

abbrev pub ArePlaced : Reading → Type 0
ArePlaced reading = Every (IsPlacedPair reading) reading.pairs.items

-- The entry has this number in the menu, from 1.
pub record IsEntryNumbered (menu : Menu) (number : ℕ) (entry : Entry) : Type 0 where
  pub position : ℕ
  pub numbered : number ≡ suc position
  pub found : slice_get (menu_entries menu) position ≡ Some entry

-- The fault is that an entry of the menu has a variable.
pub record IsOpenFault (menu : Menu) (line : ℕ) (f : CertificateFault) : Type 0 where
  pub is : f ≡ open_menu line
  pub position : ℕ
  pub entry : Entry
  pub there : slice_get (menu_entries menu) position ≡ Some entry
  pub is_open : IsClosedOne entry → ⊥
