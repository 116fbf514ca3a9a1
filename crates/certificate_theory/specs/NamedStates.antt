-- The states that the lines of a certificate name, by the exact menus of the states before them.
use Rattle.std.specs.Prelude.{◌≡◌, ◌≢◌, ℕ, zero, suc, List, [], ◌∷◌, Option, None, Some, slice_get}
use Rattle.behaviour_semantics.specs.Behaviour.{Behaviour}
use Rattle.behaviour_semantics.specs.Label.{Label}
use Rattle.behaviour_semantics.specs.Derives.{DerivesCanonically}
use Rattle.behaviour_semantics.specs.Solving.{Entry}
use Rattle.behaviour_semantics.specs.Menu.{derivation_at, IsEntry, Exact}
use Rattle.certificate_theory.specs.Certificate.{CertificateLine, names_left, names_right, lists_pair, CertificateFault, no_state, no_entry, open_menu, Comparison, ComparedSide, left_side_of, right_side_of, Reading, with_left, with_right, with_pair}

-- The entry with this number in a menu, counted from 1.
abbrev pub numbered_entry : List Entry → ℕ → Option Entry
numbered_entry menu zero = None
numbered_entry menu (suc n) = slice_get menu n

-- The entry has no variable.
abbrev pub IsClosedEntry : Entry → Type 0
IsClosedEntry entry = entry.variables ≡ []

abbrev pub IsOpenEntry : Entry → Type 0
IsOpenEntry entry = entry.variables ≢ []

module _ (side : ComparedSide) where
  -- The entry, which has no variable, leads the behaviour to this target, as a session steps: with canonical values.
  pub record EntryLeads (b : Behaviour) (entry : Entry) (target : Behaviour) : Type 0 where
    pub label : Label
    pub keeps : DerivesCanonically side.data_ side.canon side.specification.processes b (derivation_at entry []) label target

  -- The target of the entry with this number of the state with this number.
  pub record NamesState (states : List Behaviour) (from number : ℕ) (target : Behaviour) : Type 0 where
    pub state : Behaviour
    pub named : slice_get states from ≡ Some state
    pub menu : List Entry
    pub exact : Exact side.data_ side.canon side.specification.processes state menu
    pub entry : Entry
    pub there : numbered_entry menu number ≡ Some entry
    pub closed : IsClosedEntry entry
    pub leads : EntryLeads state entry target

  -- Why there is no such target: the state is not named, its menu has no such entry, or the entry has a variable.
  pub data NamesNoState (states : List Behaviour) (from number line : ℕ) : CertificateFault → Type 0 where
    state_is_missing : slice_get states from ≡ None → NamesNoState states from number line (no_state line)
    entry_is_missing :
        (state : Behaviour) (menu : List Entry) →
        slice_get states from ≡ Some state →
        Exact side.data_ side.canon side.specification.processes state menu →
        numbered_entry menu number ≡ None →
        NamesNoState states from number line (no_entry line)
    entry_is_open :
        (state : Behaviour) (menu : List Entry) (entry : Entry) →
        slice_get states from ≡ Some state →
        Exact side.data_ side.canon side.specification.processes state menu →
        numbered_entry menu number ≡ Some entry →
        IsOpenEntry entry →
        NamesNoState states from number line (open_menu line)

  -- No entry of the behaviour's menu has a variable.
  pub record HasClosedMenu (b : Behaviour) : Type 0 where
    pub menu : List Entry
    pub exact : Exact side.data_ side.canon side.specification.processes b menu
    pub closed : (entry : Entry) → IsEntry menu entry → IsClosedEntry entry

  -- An entry of the behaviour's menu has a variable.
  pub record HasOpenMenu (b : Behaviour) : Type 0 where
    pub menu : List Entry
    pub exact : Exact side.data_ side.canon side.specification.processes b menu
    pub entry : Entry
    pub there : IsEntry menu entry
    pub open_entry : IsOpenEntry entry

-- The states of a pair are named, and have menus without variables.
pub record ListsStates (c : Comparison) (r : Reading) (i j : ℕ) (left right : Behaviour) : Type 0 where
  pub left_named : slice_get r.lefts i ≡ Some left
  pub right_named : slice_get r.rights j ≡ Some right
  pub left_closed : HasClosedMenu (left_side_of c) left
  pub right_closed : HasClosedMenu (right_side_of c) right

-- Why a pair cannot be listed: one of its states is not named; or both are, and the menu of one has an entry with a variable.
pub data ListsNoStates (c : Comparison) (r : Reading) (i j line : ℕ) : CertificateFault → Type 0 where
  left_is_missing : slice_get r.lefts i ≡ None → ListsNoStates c r i j line (no_state line)
  right_is_missing : slice_get r.rights j ≡ None → ListsNoStates c r i j line (no_state line)
  left_is_open :
      (left right : Behaviour) →
      slice_get r.lefts i ≡ Some left →
      slice_get r.rights j ≡ Some right →
      HasOpenMenu (left_side_of c) left →
      ListsNoStates c r i j line (open_menu line)
  right_is_open :
      (left right : Behaviour) →
      slice_get r.lefts i ≡ Some left →
      slice_get r.rights j ≡ Some right →
      HasOpenMenu (right_side_of c) right →
      ListsNoStates c r i j line (open_menu line)

-- What a line adds to the reading: a state on its side, or a pair.
abbrev pub LineIsRead : Comparison → Reading → ℕ → CertificateLine → Reading → Type 0
LineIsRead c r line (names_left from number) next =
    (target : Behaviour) × NamesState (left_side_of c) r.lefts from number target × (next ≡ with_left r target)
LineIsRead c r line (names_right from number) next =
    (target : Behaviour) × NamesState (right_side_of c) r.rights from number target × (next ≡ with_right r target)
LineIsRead c r line (lists_pair i j) next =
    (left : Behaviour) × (right : Behaviour) × ListsStates c r i j left right
    × (next ≡ with_pair r (record { line = line; left = left; right = right }))

-- The fault of a line.
abbrev pub LineFails : Comparison → Reading → ℕ → CertificateLine → CertificateFault → Type 0
LineFails c r line (names_left from number) fault = NamesNoState (left_side_of c) r.lefts from number line fault
LineFails c r line (names_right from number) fault = NamesNoState (right_side_of c) r.rights from number line fault
LineFails c r line (lists_pair i j) fault = ListsNoStates c r i j line fault

-- The lines from a reading on, of which the first has this number, are read one after another.
pub data LinesAreRead (c : Comparison) : Reading → ℕ → List CertificateLine → Reading → Type 0 where
  all_read : {r : Reading} {line : ℕ} → LinesAreRead c r line [] r
  one_read :
      {r next last : Reading} {line : ℕ} {first : CertificateLine} {lines : List CertificateLine} →
      LineIsRead c r line first next →
      LinesAreRead c next (suc line) lines last →
      LinesAreRead c r line (first ∷ lines) last

-- The fault of the first of the lines that has one.
pub data LinesFail (c : Comparison) : Reading → ℕ → List CertificateLine → CertificateFault → Type 0 where
  fails_here :
      {r : Reading} {line : ℕ} {first : CertificateLine} {lines : List CertificateLine} {fault : CertificateFault} →
      LineFails c r line first fault →
      LinesFail c r line (first ∷ lines) fault
  fails_later :
      {r next : Reading} {line : ℕ} {first : CertificateLine} {lines : List CertificateLine} {fault : CertificateFault} →
      LineIsRead c r line first next →
      LinesFail c next (suc line) lines fault →
      LinesFail c r line (first ∷ lines) fault
