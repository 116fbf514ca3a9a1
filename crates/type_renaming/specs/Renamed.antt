-- What a renaming makes of its base, and its first fault.
use Rattle.std.specs.Prelude.{◌≡◌, ℕ, List, None}
use Rattle.syntax_trees.specs.WrittenItem.{WrittenPairs}
use Rattle.type_definitions.specs.Presentation.{Presentation as PlainPresentation}
use Rattle.type_definitions.specs.Renaming.{renamed_presentation, renaming_fault}
use Rattle.type_definitions.specs.FaultView.{IsFaultFound}
use Rattle.type_definitions.specs.declared.type_faults.TypeFault.{TypeFault}
use Rattle.type_presentations.specs.PresentationView.{IsSound, IsWithinLimits, presentation_of}
use Rattle.type_presentations.specs.declared.presentations.Presentation.{Presentation}

-- The type of this name renames the base by these pairs without a fault, and the presentation of the code is that of the
-- renaming, sound and within the limits.
pub record IsRenamed (base : PlainPresentation) (type_name : List ℕ) (pairs : WrittenPairs) (p : Presentation) : Type 0 where
  pub none : renaming_fault base type_name pairs ≡ None
  pub made : presentation_of p ≡ renamed_presentation base type_name pairs
  pub sound : IsSound p
  pub within : IsWithinLimits p

-- The fault of the code is the first one of the renaming.
pub record IsRenamingFault (base : PlainPresentation) (type_name : List ℕ) (pairs : WrittenPairs) (fault : TypeFault) : Type 0 where
  pub found : IsFaultFound (renaming_fault base type_name pairs) fault
