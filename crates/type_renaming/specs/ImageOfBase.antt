-- What two renamers make of a presentation, and the first clash within it.
use Rattle.std.specs.Prelude.{◌≡◌, Option, None, length, map}
use Rattle.type_definitions.specs.TypeFault.{TypeFault, first_fault}
use Rattle.type_definitions.specs.Presentation.{Presentation as PlainPresentation}
use Rattle.type_definitions.specs.Renaming.{renamed_sort, renamed_operation, renamed_sort_clash, renamed_operation_clash}
use Rattle.type_definitions.specs.FaultView.{IsFaultFound}
use Rattle.type_definitions.specs.declared.type_faults.TypeFault.{TypeFault as CodeFault}
use Rattle.type_presentations.specs.PresentationView.{IsSound, IsWithinLimits, presentation_of}
use Rattle.type_presentations.specs.declared.presentations.Presentation.{Presentation}
use Rattle.type_renaming.specs.Parts.{sorts_alone, with_these_operations, with_equations, with_marks}
use Rattle.type_renaming.specs.RenamerView.{type_name_in, sort_pairs_in, operation_pairs_in}
use Rattle.type_renaming.specs.declared.renamer.Renamer.{Renamer}

-- two sorts that get one name, or two operations that become one
abbrev pub clash_in : PlainPresentation → Renamer → Renamer → Option TypeFault
clash_in base sorts operations =
    first_fault (renamed_sort_clash base (type_name_in sorts) (sort_pairs_in sorts))
    (renamed_operation_clash base (type_name_in operations) (operation_pairs_in operations))

-- the image of the base
abbrev pub image_of_base : PlainPresentation → Renamer → Renamer → PlainPresentation
image_of_base base sorts operations = record {
  signature = record {
    sorts = map (renamed_sort (type_name_in sorts) (sort_pairs_in sorts)) base.signature.sorts;
    operations = map (renamed_operation (type_name_in operations) (operation_pairs_in operations)) base.signature.operations;
  };
  equations = base.equations;
  formal_sorts = base.formal_sorts;
  formal_operations = base.formal_operations;
}

-- ---- Sorts first, then operations and what stays.

-- The presentation has as many sorts as the base, and nothing else.
pub record HasSortsAlone (base p : PlainPresentation) : Type 0 where
  pub sorts : length p.signature.sorts ≡ length base.signature.sorts
  pub alone : p ≡ sorts_alone p.signature.sorts

-- No operations clash, and the presentation of the code is that of the sorts with the images of the operations, the equations
-- and the marks of the base, sound and within the limits.
pub record IsCompleted (base : PlainPresentation) (operations : Renamer) (before : PlainPresentation) (p : Presentation) : Type 0 where
  pub none : renamed_operation_clash base (type_name_in operations) (operation_pairs_in operations) ≡ None
  pub made : presentation_of p
      ≡ with_marks
      (with_equations
      (with_these_operations before
      (map (renamed_operation (type_name_in operations) (operation_pairs_in operations)) base.signature.operations))
      base.equations)
      base.formal_sorts base.formal_operations
  pub sound : IsSound p
  pub within : IsWithinLimits p

-- The fault of the code is the first clash of operations.
pub record IsOperationClash (base : PlainPresentation) (operations : Renamer) (fault : CodeFault) : Type 0 where
  pub found : IsFaultFound (renamed_operation_clash base (type_name_in operations) (operation_pairs_in operations)) fault

-- ---- All of it.

-- Nothing clashes, and the presentation of the code is the image, sound and within the limits.
pub record IsImage (base : PlainPresentation) (sorts operations : Renamer) (p : Presentation) : Type 0 where
  pub none : clash_in base sorts operations ≡ None
  pub made : presentation_of p ≡ image_of_base base sorts operations
  pub sound : IsSound p
  pub within : IsWithinLimits p

-- The fault of the code is the first clash.
pub record IsClash (base : PlainPresentation) (sorts operations : Renamer) (fault : CodeFault) : Type 0 where
  pub found : IsFaultFound (clash_in base sorts operations) fault
