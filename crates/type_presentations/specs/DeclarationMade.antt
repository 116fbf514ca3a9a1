-- What the declarations of a type make of a presentation, and their first fault.
use Rattle.std.specs.Prelude.{◌≡◌, ℕ, Bool, List, None, fold}
use Rattle.syntax_trees.specs.WrittenItem.{WrittenOperation, WrittenSections}
use Rattle.lotos_base.specs.WrittenTerm.{PlacedName}
use Rattle.type_definitions.specs.TypeFault.{fault_along}
use Rattle.type_definitions.specs.Presentation.{Presentation as PlainPresentation}
use Rattle.type_definitions.specs.Declarations.{sort_fault, with_sort, operation_fault, with_operation, declaration_fault, with_declarations}
use Rattle.type_definitions.specs.FaultView.{IsFaultFound}
use Rattle.type_definitions.specs.declared.type_faults.TypeFault.{TypeFault}
use Rattle.type_presentations.specs.PresentationView.{IsSound, IsWithinLimits, presentation_of}
use Rattle.type_presentations.specs.declared.presentations.Presentation.{Presentation}

-- ---- Sorts, formal or not.

-- The sorts have no fault, and the presentation of the code is the one before with them, sound and within the limits.
pub record AreSortsDeclared (type_name : List ℕ) (is_formal : Bool) (before : PlainPresentation) (declared : List PlacedName)
    (p : Presentation) : Type 0 where
  pub none : fault_along (sort_fault type_name is_formal) (with_sort type_name is_formal) before declared ≡ None
  pub made : presentation_of p ≡ fold (with_sort type_name is_formal) before declared
  pub sound : IsSound p
  pub within : IsWithinLimits p

-- The fault of the code is their first one.
pub record IsFaultOfSorts (type_name : List ℕ) (is_formal : Bool) (before : PlainPresentation) (declared : List PlacedName)
    (fault : TypeFault) : Type 0 where
  pub found : IsFaultFound (fault_along (sort_fault type_name is_formal) (with_sort type_name is_formal) before declared) fault

-- ---- Operations, formal or not.

-- The operations have no fault, and the presentation of the code is the one before with them, sound and within the limits.
pub record AreOperationsDeclared (type_name : List ℕ) (is_formal : Bool) (before : PlainPresentation)
    (declared : List WrittenOperation) (p : Presentation) : Type 0 where
  pub none : fault_along (operation_fault type_name is_formal) (with_operation type_name is_formal) before declared ≡ None
  pub made : presentation_of p ≡ fold (with_operation type_name is_formal) before declared
  pub sound : IsSound p
  pub within : IsWithinLimits p

-- The fault of the code is their first one.
pub record IsFaultOfOperations (type_name : List ℕ) (is_formal : Bool) (before : PlainPresentation)
    (declared : List WrittenOperation) (fault : TypeFault) : Type 0 where
  pub found :
      IsFaultFound (fault_along (operation_fault type_name is_formal) (with_operation type_name is_formal) before declared) fault

-- ---- All sections.

-- The sections of the type of this name have no fault, and the presentation of the code is the one before with what they
-- declare, sound and within the limits.
pub record IsDeclarationMade (type_name : List ℕ) (before : PlainPresentation) (sections : WrittenSections)
    (p : Presentation) : Type 0 where
  pub none : declaration_fault type_name before sections ≡ None
  pub made : presentation_of p ≡ with_declarations type_name before sections
  pub sound : IsSound p
  pub within : IsWithinLimits p

-- The fault of the code is the first one of the sections.
pub record IsDeclarationFault (type_name : List ℕ) (before : PlainPresentation) (sections : WrittenSections) (fault : TypeFault)
    : Type 0 where
  pub found : IsFaultFound (declaration_fault type_name before sections) fault
