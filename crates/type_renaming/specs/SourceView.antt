-- The parts of an actualisation as the code has them, for what comes in.
use Rattle.std.specs.Prelude.{◌≡◌, ℕ, List, Option, map}
use Rattle.lotos_base.specs.Signature.{Sort, Operation}
use Rattle.lotos_base.specs.Name.{spelling}
use Rattle.lotos_base.specs.WrittenView.{placed_name_of}
use Rattle.type_presentations.specs.NamesView.{HasNames}
use Rattle.type_definitions.specs.Actualisation.{Actualising, actual_operation, actual_sort, actualised_sort, formal_operations_of, formal_sorts_of, operation_renamer, other_operation_image, other_sort_image, sort_renamer}
use Rattle.type_definitions.specs.ActualisationFaults.{Coming}
use Rattle.type_definitions.specs.ProfiledImage.{number_in}
use Rattle.type_presentations.specs.PairIndexView.{pairs_in}
use Rattle.type_renaming.specs.Actuals.{actuals_from}
use Rattle.type_renaming.specs.declared.source.Source.{Source}

-- a sort that comes in, with the pair that made it
abbrev pub coming_sort : Actualising → Sort → Coming Sort
coming_sort a s = record { image = other_sort_image a s; pair = sort_renamer a s }

-- an operation that comes in, with the pair that made it
abbrev pub coming_operation : Actualising → Operation → Coming Operation
coming_operation a o = record { image = other_operation_image a o; pair = operation_renamer a o }

-- The base is mentioned here, the type has this name, and these are the pairs of sorts and the names of formal sorts.
pub record IsSourceOfSorts (a : Actualising) (source : Source) : Type 0 where
  pub at_is : a.base.at ≡ placed_name_of source.mention.now
  pub name_is : a.type_name ≡ spelling source.type_name.now
  pub pairs_are : a.pairs.sort_pairs ≡ pairs_in source.pairs.now
  pub formals_are : HasNames source.formals.now (map (λ s. s.name) (formal_sorts_of a.base.presentation))

-- Likewise with the pairs of operations, the names of formal operations and the new numbers of the sorts.
pub record IsSourceOfOperations (a : Actualising) (source : Source) (sorts : List ℕ) : Type 0 where
  pub at_is : a.base.at ≡ placed_name_of source.mention.now
  pub name_is : a.type_name ≡ spelling source.type_name.now
  pub pairs_are : a.pairs.operation_pairs ≡ pairs_in source.pairs.now
  pub formals_are : HasNames source.formals.now (map (λ o. o.name) (formal_operations_of a.base.presentation))
  pub sorts_are : (n : ℕ) → number_in sorts n ≡ actualised_sort a n

-- These sorts of the base, whose actual ones are given, come to those of the actual types.
pub record AreSortsComing (a : Actualising) (source : Source) (there coming : List Sort) (actuals : List (Option ℕ)) : Type 0 where
  pub source_is : IsSourceOfSorts a source
  pub there_are : a.actual.signature.sorts ≡ there
  pub coming_are : a.base.presentation.signature.sorts ≡ coming
  pub actuals_are : actuals ≡ actuals_from a.base.presentation.formal_sorts (actual_sort a) 0 coming

-- These operations of the base, whose actual ones are given, come to those of the actual types.
pub record AreOperationsComing (a : Actualising) (source : Source) (sorts : List ℕ) (there coming : List Operation)
    (actuals : List (Option ℕ)) : Type 0 where
  pub source_is : IsSourceOfOperations a source sorts
  pub there_are : a.actual.signature.operations ≡ there
  pub coming_are : a.base.presentation.signature.operations ≡ coming
  pub actuals_are : actuals ≡ actuals_from a.base.presentation.formal_operations (actual_operation a) 0 coming
