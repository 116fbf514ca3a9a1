-- The actual types, into which the sorts and operations of the base of an actualisation were brought.
use Rattle.std.specs.Prelude.{◌≡◌, ℕ, true, List}
use Rattle.lotos_base.specs.Equation.{IsWellFormedData}
use Rattle.sort_terms.specs.WellFormedTest.{all_differ, are_one_sort, are_one_operation}
use Rattle.type_definitions.specs.Flattened.{flattened_data_of}
use Rattle.type_definitions.specs.Actualisation.{Actualising, actualised_sort, actualised_sorts, actualised_operation, actualised_operations}
use Rattle.type_definitions.specs.ProfiledImage.{number_in}
use Rattle.type_presentations.specs.SortListView.{HasSortKeys, sorts_in}
use Rattle.type_presentations.specs.OperationListView.{HasOperationKeys, operations_in}
use Rattle.type_presentations.specs.EquationListView.{HasEquationKeys, HaveSidesOf, equations_in}
use Rattle.type_presentations.specs.MarksView.{IsKnown, marks_in}
use Rattle.type_presentations.specs.PresentationView.{IsSound, presentation_of}
use Rattle.type_presentations.specs.declared.presentations.Presentation.{Presentation}
use Rattle.type_actualisation.specs.ActualisationLaws.{HasActuals}

-- The lists have their keys and the marks are known.
pub record IsKeyed (p : Presentation) : Type 0 where
  pub sorts : HasSortKeys p.sorts
  pub ops : HasOperationKeys p.ops
  pub equations : HasEquationKeys p.equations
  pub formal_sorts : IsKnown p.formal_sorts
  pub formal_ops : IsKnown p.formal_ops

-- The presentation has the sorts and operations of the actualisation, and so far the equations and marks of the actual types;
-- these are the new numbers of the sorts and operations of the base.
pub record IsBrought (a : Actualising) (base p : Presentation) (sorts operations : List ℕ) : Type 0 where
  pub base_is : a.base.presentation ≡ presentation_of base
  pub base_sound : IsSound base
  pub has : HasActuals a
  pub actual_data : IsWellFormedData (flattened_data_of a.actual)
  pub keyed : IsKeyed p
  pub sorts_are : sorts_in p.sorts ≡ actualised_sorts a
  pub operations_are : operations_in p.ops ≡ actualised_operations a
  pub equations_are : equations_in p.equations ≡ a.actual.equations
  pub sides : HaveSidesOf a.actual.signature p.equations.equations.items
  pub formal_sorts_are : marks_in p.formal_sorts ≡ a.actual.formal_sorts
  pub formal_operations_are : marks_in p.formal_ops ≡ a.actual.formal_operations
  pub sorts_go : (n : ℕ) → number_in sorts n ≡ actualised_sort a n
  pub operations_go : (n : ℕ) → number_in operations n ≡ actualised_operation a n
  pub sorts_differ : all_differ are_one_sort (actualised_sorts a) ≡ true
  pub operations_differ : all_differ are_one_operation (actualised_operations a) ≡ true
