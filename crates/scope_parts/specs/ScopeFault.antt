-- What breaks a rule on names, counts, `Bool` or terms in the definitions and behaviours of a text, each with its place.
use Rattle.std.specs.Prelude.{ℕ, List, Bool, ◌&&◌, ◌||◌, nat_eq, nat_lt, if◌then◌else◌}
use Rattle.lotos_base.specs.Equation.{Place}
use Rattle.sort_terms.specs.ReadingOutcome.{ReadingRefusal, unknown_name, unknown_sort as unknown_of, no_reading, two_readings}

-- A gate, a process or a sort that nothing visible has the name of; a second declaration of a name where one is allowed; a
-- call with another number of gates or values than its process has; a premiss of one term without a sort `Bool` that has a
-- constant `true`; a term that is refused. Names stand as they are spelled at the place.
pub data ScopeFault : Type 0 where
  unknown_gate unknown_process unknown_sort double_name : (place : Place) (name : List ℕ) → ScopeFault
  gate_count value_count : (place : Place) (wanted given : ℕ) → ScopeFault
  no_bool : (place : Place) → ScopeFault
  refused_term : ReadingRefusal → ScopeFault

-- where a term is refused
abbrev pub refusal_place : ReadingRefusal → Place
refusal_place (unknown_name place) = place
refusal_place (unknown_of place) = place
refusal_place (no_reading place) = place
refusal_place (two_readings place) = place

-- where the fault stands
abbrev pub fault_place : ScopeFault → Place
fault_place (unknown_gate place name) = place
fault_place (unknown_process place name) = place
fault_place (unknown_sort place name) = place
fault_place (double_name place name) = place
fault_place (gate_count place wanted given) = place
fault_place (value_count place wanted given) = place
fault_place (no_bool place) = place
fault_place (refused_term refusal) = refusal_place refusal

-- whether one place stands before another: by the text, then by the line, then by the column
abbrev pub stands_before : Place → Place → Bool
stands_before one other =
    nat_lt one.text other.text
    || (nat_eq one.text other.text
    && (nat_lt one.line other.line || (nat_eq one.line other.line && nat_lt one.column other.column)))

-- the fault that stands first in the text, the first one of the two where they stand at one place
abbrev pub first_fault_of_two : ScopeFault → ScopeFault → ScopeFault
first_fault_of_two one other = if stands_before (fault_place other) (fault_place one) then other else one
