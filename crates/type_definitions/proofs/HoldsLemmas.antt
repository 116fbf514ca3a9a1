-- What a fault stands for, once more is known of it.
use Rattle.lotos_base.specs.WrittenView.{text_place_of}
use Rattle.sort_terms.specs.ReadingOutcome.{ReadingRefusal}
use Rattle.sort_terms.specs.RefusalView.{UnlessNoMemory}
use Rattle.sort_terms.specs.declared.sort_faults.SortFault.{SortFault}
use Rattle.sort_terms.specs.declared.sort_faults.SortFault.TheVariants as sort
use Rattle.type_definitions.specs.TypeFault as plain
use Rattle.type_definitions.specs.DeclaredEquations.{type_fault_of}
use Rattle.type_definitions.specs.FaultView.{HoldsOfFault, HoldsOfTerm, type_fault_of_term}
use Rattle.type_definitions.specs.declared.type_faults.TypeFault.{TypeFault}
use Rattle.type_definitions.specs.declared.type_faults.TypeFault.TheVariants.{DoubleType, UnknownType, TypeCycle, DoubleSort, UnknownSort, DoubleOperation, UnknownOperation, NotFormal, MissingActual, TooLarge, Premised, Term, NoMemory}

of_term : (P Q : plain.TypeFault → Type 0) (fault : SortFault) → ((f : plain.TypeFault) → P f → Q f) → HoldsOfTerm fault P
    → HoldsOfTerm fault Q
of_term P Q (sort.UnknownName place) weaker holds = weaker (plain.unknown_name (text_place_of place)) holds
of_term P Q (sort.UnknownSort place) weaker holds = weaker _ holds
of_term P Q (sort.NoReading place) weaker holds = weaker _ holds
of_term P Q (sort.TwoReadings place) weaker holds = weaker _ holds
of_term P Q sort.NoMemory weaker holds = holds

-- what follows from the property holds too
pub holds_weaker : (P Q : plain.TypeFault → Type 0) (fault : TypeFault) → ((f : plain.TypeFault) → P f → Q f) → HoldsOfFault fault P
    → HoldsOfFault fault Q
holds_weaker P Q (DoubleType place name) weaker holds = holds
holds_weaker P Q (UnknownType place name) weaker holds = holds
holds_weaker P Q (TypeCycle place name) weaker holds = holds
holds_weaker P Q (DoubleSort place name) weaker holds = weaker _ holds
holds_weaker P Q (UnknownSort place name) weaker holds = weaker _ holds
holds_weaker P Q (DoubleOperation place name) weaker holds = weaker _ holds
holds_weaker P Q (UnknownOperation place name) weaker holds = weaker _ holds
holds_weaker P Q (NotFormal place name) weaker holds = weaker _ holds
holds_weaker P Q (MissingActual place name) weaker holds = weaker _ holds
holds_weaker P Q (TooLarge place name) weaker holds = weaker _ holds
holds_weaker P Q (Premised place) weaker holds = weaker _ holds
holds_weaker P Q (Term fault) weaker holds = of_term P Q fault weaker holds
holds_weaker P Q NoMemory weaker holds = holds

-- the fault of a term that was refused
pub refused_term : (P : plain.TypeFault → Type 0) (fault : SortFault) → UnlessNoMemory fault (λ (r : ReadingRefusal). P (type_fault_of r))
    → HoldsOfFault (type_fault_of_term fault) P
refused_term P (sort.UnknownName place) holds = holds
refused_term P (sort.UnknownSort place) holds = holds
refused_term P (sort.NoReading place) holds = holds
refused_term P (sort.TwoReadings place) holds = holds
refused_term P sort.NoMemory holds = holds
