-- The presentation that a presentation of the code stands for, and what is so of each.
use Rattle.std.specs.Prelude.{◌≡◌, false}
use Rattle.lotos_base.specs.Equation.{IsWellFormedData}
use Rattle.type_definitions.specs.Presentation.{Presentation as PlainPresentation, is_too_large}
use Rattle.type_definitions.specs.Flattened.{flattened_data_of}
use Rattle.type_presentations.specs.SortListView.{HasSortKeys, sorts_in}
use Rattle.type_presentations.specs.OperationListView.{HasOperationKeys, operations_in}
use Rattle.type_presentations.specs.EquationListView.{HasEquationKeys, HaveSidesOf, equations_in}
use Rattle.type_presentations.specs.MarksView.{IsKnown, marks_in}
use Rattle.type_presentations.specs.declared.presentations.Presentation.{Presentation}

-- the presentation
abbrev pub presentation_of : Presentation → PlainPresentation
presentation_of p = record {
  signature = record { sorts = sorts_in p.sorts; operations = operations_in p.ops };
  equations = equations_in p.equations;
  formal_sorts = marks_in p.formal_sorts;
  formal_operations = marks_in p.formal_ops;
}

-- Its keys are those of its members, the terms carry the profiles of the signature, and the data are well formed.
pub record IsSound (p : Presentation) : Type 0 where
  pub sorts : HasSortKeys p.sorts
  pub ops : HasOperationKeys p.ops
  pub equations : HasEquationKeys p.equations
  pub formal_sorts : IsKnown p.formal_sorts
  pub formal_ops : IsKnown p.formal_ops
  pub sides : HaveSidesOf (presentation_of p).signature p.equations.equations.items
  pub data_ : IsWellFormedData (flattened_data_of (presentation_of p))

-- It has no more sorts, operations and equations than it may.
abbrev pub IsWithinLimits : Presentation → Type 0
IsWithinLimits p = is_too_large (presentation_of p) ≡ false
