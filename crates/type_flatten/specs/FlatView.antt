-- What flattening answers: the data of the types, or the first fault.
use Rattle.std.specs.Prelude.{◌≡◌, ◌⊎◌, ℕ, List, [], ◌∷◌, ◌++◌, None, Some}
use Rattle.lotos_base.specs.Name.{spelling}
use Rattle.lotos_base.specs.WrittenView.{text_place_of}
use Rattle.lotos_base.specs.Equation.{IsWellFormedData}
use Rattle.syntax_trees.specs.WrittenItem.{WrittenTypeBody}
use Rattle.sort_terms.specs.EquationView.{data_of as data_in, HasSidesOf}
use Rattle.sort_terms.specs.declared.equations.Flat.{Flat}
use Rattle.type_definitions.specs.DeclaredTypes.{DeclaredType, mention_graph}
use Rattle.type_definitions.specs.MentionFaults.{IsMentionFault, double_type, unknown_type, type_cycle, AreDeclaredOnce, AreAllKnown}
use Rattle.type_definitions.specs.TypeGraph.{IsAcyclic}
use Rattle.type_definitions.specs.TypeFault.{TypeFault as PlainTypeFault}
use Rattle.type_definitions.specs.Presentation.{Presentation as PlainPresentation}
use Rattle.type_definitions.specs.Union.{Mentioned, union_of, union_fault}
use Rattle.type_definitions.specs.Flattened.{IsPresentation, IsFaultOfType, ArePresented, HasFaultyType, declared_with, without_formals, flattened_data_of, IsFlattening, IsFlatteningFault}
use Rattle.type_definitions.specs.FaultView.{HoldsOfFault, IsFaultFound}
use Rattle.type_definitions.specs.declared.type_faults.TypeFault.{TypeFault}
use Rattle.type_definitions.specs.declared.type_faults.TypeFault.TheVariants.{DoubleType, UnknownType, TypeCycle, DoubleSort, UnknownSort, DoubleOperation, UnknownOperation, NotFormal, MissingActual, TooLarge, Premised, Term, NoMemory}
use Rattle.type_presentations.specs.PresentationView.{presentation_of, IsSound, IsWithinLimits}
use Rattle.type_presentations.specs.declared.presentations.Presentation.{Presentation}
use Rattle.type_presentations.specs.PresentedView.{AreSoundTypes, presented_in}
use Rattle.type_presentations.specs.declared.presented.PresentedTypes.{PresentedTypes}

-- ---- One type.

-- The type has no fault, and the presentation of the code is its presentation.
pub record IsPresented (done : List Mentioned) (name : List ℕ) (body : WrittenTypeBody) (p : Presentation) : Type 0 where
  pub presented : IsPresentation done name body (presentation_of p)
  pub sound : IsSound p
  pub within : IsWithinLimits p

-- The fault is the first one of the type.
pub record IsFirstTypeFault (done : List Mentioned) (name : List ℕ) (body : WrittenTypeBody) (fault : TypeFault) : Type 0 where
  pub found : HoldsOfFault fault (λ (f : PlainTypeFault). IsFaultOfType done name body f)

-- ---- All types in their order, behind those that have their presentations already.

-- One more type has its presentation.
pub record IsPresentedNext (done : List Mentioned) (t : DeclaredType) (after : PresentedTypes) : Type 0 where
  pub presentation : PlainPresentation
  pub presented : IsPresentation done t.name t.body presentation
  pub grown : presented_in after ≡ done ++ declared_with t presentation ∷ []
  pub sound : AreSoundTypes after

-- The types have their presentations, each sound and not too large.
pub record ArePresentedBehind (done : List Mentioned) (types : List DeclaredType) (after : PresentedTypes) : Type 0 where
  pub all_presented : ArePresented done types (presented_in after)
  pub sound : AreSoundTypes after

-- The fault is that of the first type that has one.
pub record AreRefusedBehind (done : List Mentioned) (types : List DeclaredType) (fault : TypeFault) : Type 0 where
  pub found : HoldsOfFault fault (λ (f : PlainTypeFault). HasFaultyType done types f)

-- ---- The data.

-- The data are those of the presentation; they are well formed, and the sides of their equations are of their signature.
pub record AreDataOf (p : PlainPresentation) (flat : Flat) : Type 0 where
  pub same : data_in flat ≡ flattened_data_of p
  pub well_formed : IsWellFormedData (data_in flat)
  pub sides : HasSidesOf flat

-- The data are those of the union of the types in which nothing is formal.
pub record AreUnited (all : List Mentioned) (flat : Flat) : Type 0 where
  pub none : union_fault (without_formals all) ≡ None
  pub same : data_in flat ≡ flattened_data_of (union_of (without_formals all))
  pub well_formed : IsWellFormedData (data_in flat)
  pub sides : HasSidesOf flat

-- The fault is the first one of this union.
pub record AreNotUnited (all : List Mentioned) (fault : TypeFault) : Type 0 where
  pub found : IsFaultFound (union_fault (without_formals all)) fault

-- The types have these presentations, and the data are those of their union.
pub record AreDataOfTypes (types : List DeclaredType) (flat : Flat) : Type 0 where
  pub all : List Mentioned
  pub presented : ArePresented [] types all
  pub united : AreUnited all flat

-- the first fault of the types, or of their union
abbrev pub IsFaultOfTypes : List DeclaredType → PlainTypeFault → Type 0
IsFaultOfTypes types f =
    HasFaultyType [] types f ⊎ ((all : List Mentioned) × ArePresented [] types all × (union_fault (without_formals all) ≡ Some f))

-- The fault is the first one of the types, or of their union.
pub record AreTypesRefused (types : List DeclaredType) (fault : TypeFault) : Type 0 where
  pub found : HoldsOfFault fault (λ (f : PlainTypeFault). IsFaultOfTypes types f)

-- the names of the types have no fault: none is declared twice, each one that is mentioned is declared, and no mention lies
-- on a cycle
abbrev pub AreNamesFine : List DeclaredType → Type 0
AreNamesFine types = AreDeclaredOnce types × AreAllKnown types × IsAcyclic (mention_graph types)

-- These are the data of the types, and nothing is wrong with the types.
pub record IsFlat (types : List DeclaredType) (flat : Flat) : Type 0 where
  pub names : AreNamesFine types
  pub flattened : IsFlattening types (data_in flat)
  pub well_formed : IsWellFormedData (data_in flat)
  pub sides : HasSidesOf flat

-- the fault is one of flattening, and the names of the types have none
abbrev pub IsFaultBehindNames : List DeclaredType → TypeFault → Type 0
IsFaultBehindNames types fault =
    AreNamesFine types × HoldsOfFault fault (λ (f : PlainTypeFault). IsFlatteningFault types f)

-- The fault is the first one: of the names of the types, then of a type, then of the union. Want of memory says nothing.
abbrev pub IsRefused : List DeclaredType → TypeFault → Type 0
IsRefused types (DoubleType place name) = IsMentionFault types (double_type (text_place_of place) (spelling name))
IsRefused types (UnknownType place name) = IsMentionFault types (unknown_type (text_place_of place) (spelling name))
IsRefused types (TypeCycle place name) = IsMentionFault types (type_cycle (text_place_of place) (spelling name))
IsRefused types (DoubleSort place name) = IsFaultBehindNames types (DoubleSort place name)
IsRefused types (UnknownSort place name) = IsFaultBehindNames types (UnknownSort place name)
IsRefused types (DoubleOperation place name) = IsFaultBehindNames types (DoubleOperation place name)
IsRefused types (UnknownOperation place name) = IsFaultBehindNames types (UnknownOperation place name)
IsRefused types (NotFormal place name) = IsFaultBehindNames types (NotFormal place name)
IsRefused types (MissingActual place name) = IsFaultBehindNames types (MissingActual place name)
IsRefused types (TooLarge place name) = IsFaultBehindNames types (TooLarge place name)
IsRefused types (Premised place) = IsFaultBehindNames types (Premised place)
IsRefused types (Term fault) = IsFaultBehindNames types (Term fault)
IsRefused types NoMemory = Unit {0}
