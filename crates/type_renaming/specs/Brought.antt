-- What came in of the sorts and operations of a base.
use Rattle.std.specs.Prelude.{◌≡◌, ℕ, true, None, map}
use Rattle.lotos_base.specs.Signature.{Sort, Operation}
use Rattle.sort_terms.specs.WellFormedTest.{all_differ, are_one_operation, are_one_sort}
use Rattle.type_definitions.specs.TypeFault.{double_operation, double_sort, too_large}
use Rattle.type_definitions.specs.Presentation.{is_same_operation, is_same_sort}
use Rattle.type_definitions.specs.Actualisation.{Actualising, actualised_operation, actualised_operations, actualised_sort, actualised_sorts}
use Rattle.type_definitions.specs.ActualisationFaults.{coming_clash, coming_operations, coming_sorts, coming_too_many, operations_clash, sorts_clash, there_already}
use Rattle.type_definitions.specs.ProfiledImage.{number_in}
use Rattle.type_renaming.specs.CameView.{Arrived}
use Rattle.type_renaming.specs.FaultPlaces.{fault_at}

-- The sorts are those of the actualisation, with the new number of each sort of the base, the first clash and the first that
-- is too many. No two have one name where nothing clashes.
pub record SortsCame (a : Actualising) (came : Arrived Sort) : Type 0 where
  pub list : came.list ≡ actualised_sorts a
  pub numbers : (n : ℕ) → number_in came.numbers n ≡ actualised_sort a n
  pub clash : coming_clash a sorts_clash double_sort (map there_already a.actual.signature.sorts) (coming_sorts a)
      ≡ fault_at double_sort came.clash
  pub too_many : coming_too_many a is_same_sort a.actual.signature.sorts (coming_sorts a) ≡ fault_at too_large came.too_many
  pub differ : came.clash ≡ None → all_differ are_one_sort came.list ≡ true

-- The operations are those of the actualisation, with the new number of each operation of the base, the first clash and the
-- first that is too many. No two have one name, form and profile where nothing clashes.
pub record OperationsCame (a : Actualising) (came : Arrived Operation) : Type 0 where
  pub list : came.list ≡ actualised_operations a
  pub numbers : (n : ℕ) → number_in came.numbers n ≡ actualised_operation a n
  pub clash : coming_clash a operations_clash double_operation (map there_already a.actual.signature.operations) (coming_operations a)
      ≡ fault_at double_operation came.clash
  pub too_many : coming_too_many a is_same_operation a.actual.signature.operations (coming_operations a)
      ≡ fault_at too_large came.too_many
  pub differ : came.clash ≡ None → all_differ are_one_operation came.list ≡ true
