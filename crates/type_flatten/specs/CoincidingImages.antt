-- Images in an actualisation that coincide. Those that two formal sorts of one actual sort make alike are one; two operations that
-- two different pairs make alike are a clash.
use Rattle.std.specs.Prelude.{◌≡◌, ◌<◌, ℕ, true, false, List, ◌++◌, map, take, Some, slice_get}
use Rattle.lotos_base.specs.Equation.{Equation}
use Rattle.lotos_base.specs.Names.{AreOneName}
use Rattle.lotos_base.specs.Signature.{Sort, Operation}
use Rattle.syntax_trees.specs.WrittenItem.{WrittenPair, WrittenPairs}
use Rattle.type_definitions.specs.TypeFault.{TypeFault, double_operation}
use Rattle.type_definitions.specs.Presentation.{is_marked_number, is_same_equation, first_position}
use Rattle.type_definitions.specs.Images.{equation_image}
use Rattle.type_definitions.specs.Union.{Mentioned}
use Rattle.type_definitions.specs.Renaming.{pair_for}
use Rattle.type_definitions.specs.Actualisation.{Actualising, actual_name, actualised_sort, actualised_operation, actualised_equations, other_operation_image, operation_renamer}
use Rattle.type_definitions.specs.ActualisationFaults.{Coming, coming_operations, there_already, actualising_of}
use Rattle.type_flatten.specs.FaultCauses.{AreAlikeOperations}
use Rattle.type_flatten.specs.ActualisationCauses.{OperationsClash, Clashes, ActualisationBrings}

-- the name that a formal sort has among the actual types
abbrev pub sought_name : Actualising → Sort → List ℕ
sought_name a sort = actual_name sort.name (pair_for a.pairs.sort_pairs sort.name)

-- two formal sorts of the base that have one actual sort
pub record HaveOneActual (a : Actualising) (i j : ℕ) : Type 0 where
  pub one : Sort
  pub other : Sort
  pub here : slice_get a.base.presentation.signature.sorts i ≡ Some one
  pub there : slice_get a.base.presentation.signature.sorts j ≡ Some other
  pub formal : is_marked_number a.base.presentation.formal_sorts i ≡ true
  pub formal_too : is_marked_number a.base.presentation.formal_sorts j ≡ true
  pub same : AreOneName (sought_name a one) (sought_name a other)

-- two operations of the base, neither formal, that are alike but for sorts that become one
pub record AreAlikeButForSorts (a : Actualising) (i j : ℕ) : Type 0 where
  pub one : Operation
  pub other : Operation
  pub here : slice_get a.base.presentation.signature.operations i ≡ Some one
  pub there : slice_get a.base.presentation.signature.operations j ≡ Some other
  pub not_formal : is_marked_number a.base.presentation.formal_operations i ≡ false
  pub not_formal_too : is_marked_number a.base.presentation.formal_operations j ≡ false
  pub named : AreOneName one.name other.name
  pub formed : one.form ≡ other.form
  pub origin : AreOneName one.origin other.origin
  pub arguments : map (actualised_sort a) one.arguments ≡ map (actualised_sort a) other.arguments
  pub result : actualised_sort a one.result ≡ actualised_sort a other.result

-- an operation of the base that is not formal, as it comes in
abbrev pub coming_of : Actualising → Operation → Coming Operation
coming_of a operation = record { image = other_operation_image a operation; pair = operation_renamer a operation }

-- the image of an equation of the base
abbrev pub image_of : Actualising → Equation → Equation
image_of a equation = equation_image (actualised_sort a) (actualised_operation a) equation

-- two operations of the base, neither formal, that pairs at two places make one
pub record PairsMakeOne (a : Actualising) : Type 0 where
  pub i : ℕ
  pub j : ℕ
  pub one : Coming Operation
  pub other : Coming Operation
  pub before : i < j
  pub here : slice_get (coming_operations a) i ≡ Some one
  pub there : slice_get (coming_operations a) j ≡ Some other
  pub same : AreAlikeOperations other.image one.image
  pub earlier : WrittenPair
  pub later : WrittenPair
  pub made : one.pair ≡ Some earlier
  pub made_too : other.pair ≡ Some later
  pub apart : ¬ (later.place ≡ earlier.place)

pub record CoincidingImagesAreDecided : Type 0 where
  -- two formal sorts of one actual sort become this one
  pub sorts : (a : Actualising) (i j : ℕ) → HaveOneActual a i j → actualised_sort a i ≡ actualised_sort a j
  -- operations that are alike but for such sorts become one, and are no clash
  pub operations :
      (a : Actualising) (i j : ℕ) (alike : AreAlikeButForSorts a i j) →
      (actualised_operation a i ≡ actualised_operation a j) × (¬ OperationsClash (coming_of a alike.other) (coming_of a alike.one))
  -- equations of one place whose images have the same sides become one
  pub equations :
      (a : Actualising) (one other : Equation) →
      one.place ≡ other.place →
      (image_of a one).left ≡ (image_of a other).left →
      (image_of a one).right ≡ (image_of a other).right →
      first_position (is_same_equation (image_of a one)) (actualised_equations a)
      ≡ first_position (is_same_equation (image_of a other)) (actualised_equations a)
  -- operations that two pairs make one are the cause of a fault, at the pair of the later one
  pub pairs :
      (a : Actualising) (two : PairsMakeOne a) →
      Clashes a OperationsClash double_operation
      (map there_already a.actual.signature.operations ++ take two.j (coming_operations a)) two.other
      (double_operation two.later.place two.later.given)
  -- so the actualisation has a fault: this one, or an earlier one
  pub refused :
      (base : Mentioned) (actuals : List Mentioned) (type_name : List ℕ) (pairs : WrittenPairs) →
      PairsMakeOne (actualising_of base actuals type_name pairs) →
      (fault : TypeFault) × ActualisationBrings base actuals type_name pairs fault
