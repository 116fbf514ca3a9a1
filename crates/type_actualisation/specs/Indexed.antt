-- The pairs of an actualisation, found by their old names, and what comes behind them.
use Rattle.std.specs.Prelude.{◌≡◌, [], List, map, None, Option}
use Rattle.syntax_trees.specs.TreeViews.{pair_of}
use Rattle.syntax_trees.specs.declared.items.PairText.{PairText}
use Rattle.type_definitions.specs.FaultView.{IsFaultFound}
use Rattle.type_definitions.specs.declared.type_faults.TypeFault.{TypeFault as CodeFault}
use Rattle.type_definitions.specs.TypeFault.{TypeFault, first_fault}
use Rattle.type_definitions.specs.Presentation.{Presentation as PlainPresentation}
use Rattle.type_definitions.specs.Renaming.{operation_pairs_fault}
use Rattle.type_definitions.specs.Actualisation.{Actualising, actualisation}
use Rattle.type_definitions.specs.ActualisationFaults.{actual_pairs_fault, actualising_fault}
use Rattle.type_presentations.specs.PairIndexView.{pairs_in}
use Rattle.type_presentations.specs.declared.pair_index.PairIndex.{PairIndex}
use Rattle.type_presentations.specs.PresentationView.{IsSound, IsWithinLimits, presentation_of}
use Rattle.type_presentations.specs.declared.presentations.Presentation.{Presentation}
use Rattle.type_renaming.specs.SourceView.{IsSourceOfSorts}
use Rattle.type_renaming.specs.declared.source.Source.{Source}
use Rattle.type_actualisation.specs.Parts.{fault_behind_pairs}

-- ---- Pairs of sorts, then of operations.

-- Nothing is wrong with these pairs of sorts, and they are found by their old names.
pub record AreSortPairs (base : PlainPresentation) (pairs : List PairText) (index : PairIndex) : Type 0 where
  pub none : actual_pairs_fault base [] (map pair_of pairs) ≡ None
  pub are : pairs_in index ≡ map pair_of pairs

-- The fault of the code is the first of these pairs of sorts.
pub record IsFaultOfSortPairs (base : PlainPresentation) (pairs : List PairText) (fault : CodeFault) : Type 0 where
  pub found : IsFaultFound (actual_pairs_fault base [] (map pair_of pairs)) fault

-- Nothing is wrong with these pairs of operations, and they are found by their old names.
pub record AreOperationPairs (base : PlainPresentation) (pairs : List PairText) (index : PairIndex) : Type 0 where
  pub none : operation_pairs_fault base.signature [] (map pair_of pairs) ≡ None
  pub are : pairs_in index ≡ map pair_of pairs

-- The fault of the code is the first of these pairs of operations.
pub record IsFaultOfOperationPairs (base : PlainPresentation) (pairs : List PairText) (fault : CodeFault) : Type 0 where
  pub found : IsFaultFound (operation_pairs_fault base.signature [] (map pair_of pairs)) fault

-- ---- What comes behind the pairs of sorts.

-- The base, the actual types, what the sorts of the base come from, and the pairs of operations.
pub record HasSortSource (a : Actualising) (base p : Presentation) (sorts : Source) (pairs : List PairText) : Type 0 where
  pub base_is : a.base.presentation ≡ presentation_of base
  pub actual_is : a.actual ≡ presentation_of p
  pub sorts_are : IsSourceOfSorts a sorts
  pub pairs_are : a.pairs.operation_pairs ≡ map pair_of pairs

-- the first fault behind the pairs of sorts
abbrev pub fault_behind_sort_pairs : Actualising → Option TypeFault
fault_behind_sort_pairs a =
    first_fault (operation_pairs_fault a.base.presentation.signature [] a.pairs.operation_pairs) (fault_behind_pairs a)

-- Nothing is wrong there, and the presentation of the code is the actualisation, sound and within the limits.
pub record IsWithOperations (a : Actualising) (p : Presentation) : Type 0 where
  pub none : fault_behind_sort_pairs a ≡ None
  pub made : presentation_of p ≡ actualisation a
  pub sound : IsSound p
  pub within : IsWithinLimits p

-- The fault of the code is the first there.
pub record IsFaultBehindSortPairs (a : Actualising) (fault : CodeFault) : Type 0 where
  pub found : IsFaultFound (fault_behind_sort_pairs a) fault

-- The fault of the code is the first of the actualisation.
pub record IsActualisingFault (a : Actualising) (fault : CodeFault) : Type 0 where
  pub found : IsFaultFound (actualising_fault a) fault
