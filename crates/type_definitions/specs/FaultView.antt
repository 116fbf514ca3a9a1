-- The faults of types that faults of the code stand for.
use Rattle.std.specs.Prelude.{◌≡◌, Option, None, Some}
use Rattle.lotos_base.specs.Name.{spelling}
use Rattle.lotos_base.specs.WrittenView.{text_place_of}
use Rattle.sort_terms.specs.declared.sort_faults.SortFault.{SortFault}
use Rattle.sort_terms.specs.declared.sort_faults.SortFault.TheVariants as sort
use Rattle.type_definitions.specs.declared.name_faults.TypeNameFault.{TypeNameFault}
use Rattle.type_definitions.specs.declared.name_faults.TypeNameFault.TheVariants as names
use Rattle.type_definitions.specs.TypeFault as plain
use Rattle.type_definitions.specs.declared.type_faults.TypeFault.{TypeFault}
use Rattle.type_definitions.specs.declared.type_faults.TypeFault.TheVariants.{DoubleType, UnknownType, TypeCycle, DoubleSort, UnknownSort, DoubleOperation, UnknownOperation, NotFormal, MissingActual, TooLarge, Premised, Term, NoMemory}

-- the property of the fault that a refused term is. Want of memory does not stand in its place
abbrev pub HoldsOfTerm : SortFault → (plain.TypeFault → Type 0) → Type 0
HoldsOfTerm (sort.UnknownName place) P = P (plain.unknown_name (text_place_of place))
HoldsOfTerm (sort.UnknownSort place) P = P (plain.unknown_sort (text_place_of place) None)
HoldsOfTerm (sort.NoReading place) P = P (plain.no_reading (text_place_of place))
HoldsOfTerm (sort.TwoReadings place) P = P (plain.two_readings (text_place_of place))
HoldsOfTerm sort.NoMemory P = ⊥

-- the property of the fault of one type that a fault of the code stands for, unless memory was wanting. Faults of the names of
-- types are none of one type
abbrev pub HoldsOfFault : TypeFault → (plain.TypeFault → Type 0) → Type 0
HoldsOfFault (DoubleType place name) P = ⊥
HoldsOfFault (UnknownType place name) P = ⊥
HoldsOfFault (TypeCycle place name) P = ⊥
HoldsOfFault (DoubleSort place name) P = P (plain.double_sort (text_place_of place) (spelling name))
HoldsOfFault (UnknownSort place name) P = P (plain.unknown_sort (text_place_of place) (Some (spelling name)))
HoldsOfFault (DoubleOperation place name) P = P (plain.double_operation (text_place_of place) (spelling name))
HoldsOfFault (UnknownOperation place name) P = P (plain.unknown_operation (text_place_of place) (spelling name))
HoldsOfFault (NotFormal place name) P = P (plain.not_formal (text_place_of place) (spelling name))
HoldsOfFault (MissingActual place name) P = P (plain.missing_actual (text_place_of place) (spelling name))
HoldsOfFault (TooLarge place name) P = P (plain.too_large (text_place_of place) (spelling name))
HoldsOfFault (Premised place) P = P (plain.premised (text_place_of place))
HoldsOfFault (Term fault) P = HoldsOfTerm fault P
HoldsOfFault NoMemory P = Unit {0}

-- the fault of the code that a refused term is
abbrev pub type_fault_of_term : SortFault → TypeFault
type_fault_of_term (sort.UnknownName place) = Term (sort.UnknownName place)
type_fault_of_term (sort.UnknownSort place) = Term (sort.UnknownSort place)
type_fault_of_term (sort.NoReading place) = Term (sort.NoReading place)
type_fault_of_term (sort.TwoReadings place) = Term (sort.TwoReadings place)
type_fault_of_term sort.NoMemory = NoMemory

-- the fault of the code that a fault of names is
abbrev pub fault_of_names : TypeNameFault → TypeFault
fault_of_names (names.DoubleType place name) = DoubleType place name
fault_of_names (names.UnknownType place name) = UnknownType place name
fault_of_names (names.TypeCycle place name) = TypeCycle place name
fault_of_names names.NoMemory = NoMemory

-- the fault of the code is the one that was found
abbrev pub IsFaultFound : Option plain.TypeFault → TypeFault → Type 0
IsFaultFound found fault = HoldsOfFault fault (λ (f : plain.TypeFault). found ≡ Some f)
