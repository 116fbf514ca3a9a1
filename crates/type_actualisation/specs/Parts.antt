-- An actualisation in its parts: what is formal, what comes in, and what is left to bring.
use Rattle.std.specs.Prelude.{◌≡◌, ℕ, false, None, Option, map, List}
use Rattle.lotos_base.specs.Name.{spelling}
use Rattle.lotos_base.specs.WrittenView.{placed_name_of}
use Rattle.lotos_base.specs.Equation.{IsWellFormedData}
use Rattle.type_presentations.specs.NamesView.{HasNames}
use Rattle.type_definitions.specs.FaultView.{IsFaultFound}
use Rattle.type_definitions.specs.declared.type_faults.TypeFault.{TypeFault as CodeFault}
use Rattle.type_definitions.specs.TypeFault.{TypeFault, double_operation, double_sort, first_fault, too_large}
use Rattle.type_definitions.specs.Presentation.{is_too_large}
use Rattle.type_definitions.specs.Flattened.{flattened_data_of}
use Rattle.type_definitions.specs.Actualisation.{Actualising, actualisation, formal_operations_of, formal_sorts_of}
use Rattle.type_definitions.specs.ActualisationFaults.{coming_fault, formal_operation_fault, formal_sort_fault}
use Rattle.type_presentations.specs.PairIndexView.{pairs_in}
use Rattle.type_presentations.specs.SortListView.{SortList, sorts_in}
use Rattle.type_presentations.specs.OperationListView.{OperationList, operations_in}
use Rattle.type_presentations.specs.EquationListView.{HaveSidesOf, equations_in}
use Rattle.type_presentations.specs.MarksView.{marks_in}
use Rattle.type_presentations.specs.PresentationView.{IsSound, IsWithinLimits, presentation_of}
use Rattle.type_presentations.specs.declared.presentations.Presentation.{Presentation}
use Rattle.type_renaming.specs.PartsView.{IsBaseOf}
use Rattle.type_actualisation.specs.ActualisationLaws.{HasActuals}
use Rattle.type_actualisation.specs.Brought.{IsKeyed}
use Rattle.type_renaming.specs.Brought.{OperationsCame, SortsCame}
use Rattle.type_renaming.specs.CameView.{operations_with, place_kept, sorts_with}
use Rattle.type_renaming.specs.FaultPlaces.{fault_at}
use Rattle.type_renaming.specs.SourceView.{IsSourceOfOperations, IsSourceOfSorts}
use Rattle.type_renaming.specs.declared.came.Came.{Came}
use Rattle.type_renaming.specs.declared.source.Source.{Source}

-- ---- Sorts, then operations.

-- The sorts of the actual types, and what those of the base come from.
pub record HasSortParts (a : Actualising) (base : Presentation) (list : SortList) (source : Source) : Type 0 where
  pub base_is : IsBaseOf a base source.mention.now
  pub there_are : a.actual.signature.sorts ≡ sorts_in list
  pub source_is : IsSourceOfSorts a source

-- Each formal sort has its actual one, and the sorts came in.
pub record HasBroughtSorts (a : Actualising) (list : SortList) (kept : Came) : Type 0 where
  pub none : formal_sort_fault a (formal_sorts_of a.base.presentation) ≡ None
  pub came : SortsCame a (sorts_with list kept)

-- The fault of the code is the first of a formal sort.
pub record IsFormalSortFault (a : Actualising) (fault : CodeFault) : Type 0 where
  pub found : IsFaultFound (formal_sort_fault a (formal_sorts_of a.base.presentation)) fault

-- The operations of the actual types, and what those of the base come from.
pub record HasOperationParts (a : Actualising) (base : Presentation) (list : OperationList) (source : Source) (sorts : List ℕ)
    : Type 0 where
  pub base_is : IsBaseOf a base source.mention.now
  pub there_are : a.actual.signature.operations ≡ operations_in list
  pub source_is : IsSourceOfOperations a source sorts

-- Each formal operation has its actual one, and the operations came in.
pub record HasBroughtOperations (a : Actualising) (list : OperationList) (kept : Came) : Type 0 where
  pub none : formal_operation_fault a (formal_operations_of a.base.presentation) ≡ None
  pub came : OperationsCame a (operations_with list kept)

-- The fault of the code is the first of a formal operation.
pub record IsFormalOperationFault (a : Actualising) (fault : CodeFault) : Type 0 where
  pub found : IsFaultFound (formal_operation_fault a (formal_operations_of a.base.presentation)) fault

-- ---- What came, and what is left to bring.

-- the first fault that was kept: clashes of sorts, then of operations; then sorts and operations that are too many
abbrev pub fault_kept : Came → Came → Option TypeFault
fault_kept sorts operations =
    first_fault (fault_at double_sort (place_kept sorts.clash))
    (first_fault (fault_at double_operation (place_kept operations.clash))
    (first_fault (fault_at too_large (place_kept sorts.too_many)) (fault_at too_large (place_kept operations.too_many))))

-- The sorts and operations of the base came to the actual types, with their equations and marks so far.
pub record HaveCome (a : Actualising) (base p : Presentation) (came_sorts came_operations : Came) : Type 0 where
  pub base_is : a.base.presentation ≡ presentation_of base
  pub base_sound : IsSound base
  pub has : HasActuals a
  pub actual_data : IsWellFormedData (flattened_data_of a.actual)
  pub actual_within : is_too_large a.actual ≡ false
  pub keyed : IsKeyed p
  pub equations_are : equations_in p.equations ≡ a.actual.equations
  pub sides : HaveSidesOf a.actual.signature p.equations.equations.items
  pub formal_sorts_are : marks_in p.formal_sorts ≡ a.actual.formal_sorts
  pub formal_operations_are : marks_in p.formal_ops ≡ a.actual.formal_operations
  pub sorts : SortsCame a (sorts_with p.sorts came_sorts)
  pub operations : OperationsCame a (operations_with p.ops came_operations)

-- Nothing is wrong with what comes in, and the presentation of the code is the actualisation, sound and within the limits.
pub record HasBroughtRest (a : Actualising) (p : Presentation) : Type 0 where
  pub none : coming_fault a ≡ None
  pub made : presentation_of p ≡ actualisation a
  pub sound : IsSound p
  pub within : IsWithinLimits p

-- The fault of the code is the first of what comes in.
pub record IsComingFault (a : Actualising) (fault : CodeFault) : Type 0 where
  pub found : IsFaultFound (coming_fault a) fault

-- ---- All behind the pairs.

-- The base, the actual types, and what the sorts and operations of the base come from.
pub record HasParts (a : Actualising) (base p : Presentation) (sorts operations : Source) : Type 0 where
  pub base_is : a.base.presentation ≡ presentation_of base
  pub actual_is : a.actual ≡ presentation_of p
  pub sorts_are : IsSourceOfSorts a sorts
  pub mention_is : a.base.at ≡ placed_name_of operations.mention.now
  pub name_is : a.type_name ≡ spelling operations.type_name.now
  pub pairs_are : a.pairs.operation_pairs ≡ pairs_in operations.pairs.now
  pub formals_are : HasNames operations.formals.now (map (λ o. o.name) (formal_operations_of a.base.presentation))

-- the first fault behind the pairs
abbrev pub fault_behind_pairs : Actualising → Option TypeFault
fault_behind_pairs a =
    first_fault (formal_sort_fault a (formal_sorts_of a.base.presentation))
    (first_fault (formal_operation_fault a (formal_operations_of a.base.presentation)) (coming_fault a))

-- Nothing is wrong behind the pairs, and the presentation of the code is the actualisation, sound and within the limits.
pub record IsBroughtIn (a : Actualising) (p : Presentation) : Type 0 where
  pub none : fault_behind_pairs a ≡ None
  pub made : presentation_of p ≡ actualisation a
  pub sound : IsSound p
  pub within : IsWithinLimits p

-- The fault of the code is the first behind the pairs.
pub record IsFaultBehindPairs (a : Actualising) (fault : CodeFault) : Type 0 where
  pub found : IsFaultFound (fault_behind_pairs a) fault
