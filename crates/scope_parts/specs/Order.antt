-- Places that follow one another, and which of two faults comes first.
use Rattle.std.specs.Prelude.{◌≡◌, ◌⊎◌, ◌≤◌, ℕ, true, List, [], ◌∷◌, ◌++◌}
use Rattle.lotos_base.specs.Equation.{Place}
use Rattle.behaviour_semantics.specs.WellFormed.{Every}
use Rattle.scope_parts.specs.ScopeFault.{ScopeFault, unknown_gate, unknown_process, unknown_sort, double_name, gate_count, value_count, no_bool, refused_term, fault_place, stands_before}

-- the place is one of the list
abbrev pub IsOneOfPlaces : Place → List Place → Type 0
IsOneOfPlaces place [] = ⊥
IsOneOfPlaces place (p ∷ ps) = (place ≡ p) ⊎ IsOneOfPlaces place ps

-- every place of the first list stands before every place of the second
abbrev pub StandWhollyBefore : List Place → List Place → Type 0
StandWhollyBefore ps qs = (p q : Place) → IsOneOfPlaces p ps → IsOneOfPlaces q qs → stands_before p q ≡ true

-- each list stands wholly before those behind it
abbrev pub InTurn : List (List Place) → Type 0
InTurn [] = Unit {0}
InTurn (ps ∷ rest) = Every (StandWhollyBefore ps) rest × InTurn rest

-- each place stands before those behind it
abbrev pub Rising : List Place → Type 0
Rising [] = Unit {0}
Rising (p ∷ ps) = StandWhollyBefore (p ∷ []) ps × Rising ps

-- the places of the lists
abbrev pub joined_places : List (List Place) → List Place
joined_places [] = []
joined_places (ps ∷ rest) = ps ++ joined_places rest

-- which of the faults at one place counts: a name that is declared twice; a gate, a process or a sort that is not there; the
-- number of gates; the number of values; a premiss without `Bool`; a refused term
abbrev pub rank : ScopeFault → ℕ
rank (double_name place name) = 0
rank (unknown_gate place name) = 1
rank (unknown_process place name) = 1
rank (unknown_sort place name) = 1
rank (gate_count place wanted given) = 2
rank (value_count place wanted given) = 3
rank (no_bool place) = 4
rank (refused_term refusal) = 5

-- The fault does not come after the other: it stands before it in the text, or at the same place, where the other does not
-- count before it.
abbrev pub NotAfter : ScopeFault → ScopeFault → Type 0
NotAfter fault other =
    (stands_before (fault_place fault) (fault_place other) ≡ true)
    ⊎ ((fault_place fault ≡ fault_place other) × (rank fault ≤ rank other))
