-- Laws of actualisations: the base goes into it under maps of sorts and operations, and its data are well formed.
use Rattle.std.specs.Prelude.{◌≡◌, true, None}
use Rattle.lotos_base.specs.Equation.{IsWellFormedData}
use Rattle.sort_terms.specs.WellFormedTest.{all_differ, are_one_sort, are_one_operation}
use Rattle.type_definitions.specs.ImageLaws.{IsSignatureMap}
use Rattle.type_definitions.specs.Flattened.{flattened_data_of}
use Rattle.type_definitions.specs.Actualisation.{Actualising, actualisation, actualised_sort, actualised_operation, formal_sorts_of, formal_operations_of}
use Rattle.type_definitions.specs.ActualisationFaults.{formal_sort_fault, formal_operation_fault}

-- Each formal sort and operation of the base has its actual one.
pub record HasActuals (a : Actualising) : Type 0 where
  pub sorts : formal_sort_fault a (formal_sorts_of a.base.presentation) ≡ None
  pub operations : formal_operation_fault a (formal_operations_of a.base.presentation) ≡ None

pub record ActualisedDataAreWellFormed : Type 0 where
  -- what the base has goes to what is there, and operations keep their profiles
  pub base_goes : (a : Actualising) → HasActuals a
      → IsSignatureMap a.base.presentation.signature (actualisation a).signature (actualised_sort a) (actualised_operation a)
  -- its data are well formed where nothing clashes
  pub well_formed : (a : Actualising) → HasActuals a → IsWellFormedData (flattened_data_of a.base.presentation)
      → IsWellFormedData (flattened_data_of a.actual)
      → all_differ are_one_sort (actualisation a).signature.sorts ≡ true
      → all_differ are_one_operation (actualisation a).signature.operations ≡ true → IsWellFormedData (flattened_data_of (actualisation a))
