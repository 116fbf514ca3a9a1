-- What the faults of the code tell, and what an answer of the code says of a part of a text.
use Rattle.std.specs.Prelude.{◌≡◌, Bool, true, Option, None, Some, Result, Ok, Err}
use Rattle.lotos_base.specs.Name.{spelling}
use Rattle.lotos_base.specs.WrittenView.{text_place_of}
use Rattle.lotos_base.specs.declared.places.Place.{Place}
use Rattle.lotos_base.specs.declared.names.Name.{Name}
use Rattle.sort_terms.specs.ReadingOutcome.{unknown_name, unknown_sort as unknown_of, no_reading, two_readings}
use Rattle.sort_terms.specs.declared.sort_faults.SortFault.{SortFault}
use Rattle.sort_terms.specs.declared.sort_faults.SortFault.TheVariants as sort
use Rattle.scope_parts.specs.ScopeFault as plain
use Rattle.scope_parts.specs.Resolution.{Resolution, resolved, faulty}
use Rattle.scope_parts.specs.declared.scope_faults.ScopeFault.{ScopeFault}
use Rattle.scope_parts.specs.declared.scope_faults.ScopeFault.TheVariants.{UnknownGate, UnknownProcess, UnknownSort, DoubleName, GateCount, ValueCount, NoBool, Term, NoMemory}

-- What a fault of the code tells: nothing, where memory was wanted; a fault; or what no answer tells, want of memory in the
-- place of a refused term.
pub data Told : Type 0 where
  nothing_told never_told : Told
  told : plain.ScopeFault → Told

abbrev pub term_told : SortFault → Told
term_told (sort.UnknownName place) = told (plain.refused_term (unknown_name (text_place_of place)))
term_told (sort.UnknownSort place) = told (plain.refused_term (unknown_of (text_place_of place)))
term_told (sort.NoReading place) = told (plain.refused_term (no_reading (text_place_of place)))
term_told (sort.TwoReadings place) = told (plain.refused_term (two_readings (text_place_of place)))
term_told sort.NoMemory = never_told

abbrev pub told_by : ScopeFault → Told
told_by (UnknownGate place name) = told (plain.unknown_gate (text_place_of place) (spelling name))
told_by (UnknownProcess place name) = told (plain.unknown_process (text_place_of place) (spelling name))
told_by (UnknownSort place name) = told (plain.unknown_sort (text_place_of place) (spelling name))
told_by (DoubleName place name) = told (plain.double_name (text_place_of place) (spelling name))
told_by (GateCount place wanted given) = told (plain.gate_count (text_place_of place) wanted given)
told_by (ValueCount place wanted given) = told (plain.value_count (text_place_of place) wanted given)
told_by (NoBool place) = told (plain.no_bool (text_place_of place))
told_by (Term fault) = term_told fault
told_by NoMemory = nothing_told

-- the property of the fault that is told, unless memory was wanted
abbrev pub OfTold : Told → (plain.ScopeFault → Type 0) → Type 0
OfTold nothing_told P = Unit {0}
OfTold never_told P = ⊥
OfTold (told fault) P = P fault

abbrev pub FaultIs : ScopeFault → (plain.ScopeFault → Type 0) → Type 0
FaultIs fault P = OfTold (told_by fault) P

-- the fault of the code that a refused term is
abbrev pub fault_of_term : SortFault → ScopeFault
fault_of_term (sort.UnknownName place) = Term (sort.UnknownName place)
fault_of_term (sort.UnknownSort place) = Term (sort.UnknownSort place)
fault_of_term (sort.NoReading place) = Term (sort.NoReading place)
fault_of_term (sort.TwoReadings place) = Term (sort.TwoReadings place)
fault_of_term sort.NoMemory = NoMemory

-- the answer says what the part of a text comes to, where its value is seen as a plain one
abbrev pub Answers : {T X : Type 0} → (T → X) → Result T ScopeFault → (Resolution X → Type 0) → Type 0
Answers view (Ok x) ComesTo = ComesTo (resolved (view x))
Answers view (Err fault) ComesTo = FaultIs fault (λ f. ComesTo (faulty f))

-- whether what is told stands before a place. Want of memory counts as before all places
abbrev pub IsToldBefore : Bool → Told → Place → Type 0
IsToldBefore result nothing_told place = result ≡ true
IsToldBefore result never_told place = Unit {0}
IsToldBefore result (told fault) place = result ≡ plain.stands_before (plain.fault_place fault) (text_place_of place)

abbrev pub IsBeforePlace : Bool → ScopeFault → Place → Type 0
IsBeforePlace result fault place = IsToldBefore result (told_by fault) place

-- an answer beside a double name in the list that it stands for
abbrev pub ErrBeside : Place × Name → Told → ScopeFault → Type 0
ErrBeside double nothing_told fault = fault ≡ NoMemory
ErrBeside double never_told fault = Unit {0}
ErrBeside double (told other) fault =
    FaultIs fault (λ f. f ≡ plain.first_fault_of_two (plain.double_name (text_place_of double.0) (spelling double.1)) other)

abbrev pub IsBeside : {T : Type 0} → Option (Place × Name) → Result T ScopeFault → Result T ScopeFault → Type 0
IsBeside None others result = result ≡ others
IsBeside (Some double) others (Ok x) = ⊥
IsBeside (Some double) (Ok y) (Err fault) = FaultIs fault (λ f. f ≡ plain.double_name (text_place_of double.0) (spelling double.1))
IsBeside (Some double) (Err other) (Err fault) = ErrBeside double (told_by other) fault
