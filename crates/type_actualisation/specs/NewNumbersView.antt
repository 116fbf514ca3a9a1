-- The new numbers of what the base of an actualisation has.
use Rattle.std.specs.Prelude.{◌≡◌, ℕ}
use Rattle.type_definitions.specs.Actualisation.{Actualising, actualised_operation, actualised_sort}
use Rattle.type_definitions.specs.ProfiledImage.{number_in}
use Rattle.type_actualisation.specs.ActualisationLaws.{HasActuals}
use Rattle.type_actualisation.specs.declared.bringing.NewNumbers.{NewNumbers}

-- Each formal sort and operation has its actual one, and these are the numbers of its sorts and operations in the actualisation.
pub record AreNewNumbers (a : Actualising) (numbers : NewNumbers) : Type 0 where
  pub has : HasActuals a
  pub sorts : (n : ℕ) → number_in numbers.sorts.items n ≡ actualised_sort a n
  pub operations : (n : ℕ) → number_in numbers.ops.items n ≡ actualised_operation a n
