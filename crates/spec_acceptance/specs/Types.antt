-- The types are flattened to data.
use Rattle.std.specs.Prelude.{ℕ, List}
use Rattle.lotos_base.specs.Equation.{Data}
use Rattle.type_definitions.specs.DeclaredTypes.{DeclaredType, types_of}
use Rattle.type_definitions.specs.MentionFaults.{MentionFault, IsMentionFault}
use Rattle.type_definitions.specs.TypeFault.{TypeFault}
use Rattle.type_definitions.specs.Flattened.{IsFlattening, IsFlatteningFault}
pub use Rattle.type_flatten.specs.FlatView.{AreNamesFine}
use Rattle.refusal_lines.specs.HandedOn.{Gathered}
use Rattle.refusal_lines.specs.Refusal.{Refusal, Refused, wrong_names, wrong_types}
use Rattle.spec_acceptance.specs.Ending.{with_libraries}
use Rattle.spec_acceptance.specs.Part.{Part, Looks}

-- the types have these data
abbrev pub HaveData : List DeclaredType → Data → Type 0
HaveData types data_ = AreNamesFine types × IsFlattening types data_

-- what is wrong with types: with their names, or with what they declare
pub data TypesFault : Type 0 where
  of_names : MentionFault → TypesFault
  of_declarations : TypeFault → TypesFault

-- they have this fault: of their names first
abbrev pub HaveFault : List DeclaredType → TypesFault → Type 0
HaveFault types (of_names fault) = IsMentionFault types fault
HaveFault types (of_declarations fault) = AreNamesFine types × IsFlatteningFault types fault

abbrev pub types_refusal : TypesFault → Refusal
types_refusal (of_names fault) = wrong_names fault
types_refusal (of_declarations fault) = wrong_types fault

abbrev pub types_told : List (List ℕ) → TypesFault → Refused
types_told read fault = with_libraries read (types_refusal fault)

abbrev pub Flattens : Gathered → Part Refused Data
Flattens gathered = Looks (HaveData (types_of gathered.types)) (HaveFault (types_of gathered.types)) (types_told gathered.read)
