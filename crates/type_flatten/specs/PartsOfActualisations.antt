-- Laws of actualisations: the presentation has that of the actual types, and the image of what is not formal in the base; nothing
-- else is there.
use Rattle.std.specs.Prelude.{◌≡◌, ◌⊎◌, ℕ, true, false, Some, map, slice_get}
use Rattle.lotos_base.specs.Signature.{Sort, Operation}
use Rattle.lotos_base.specs.Equation.{Equation}
use Rattle.type_definitions.specs.Images.{equation_image}
use Rattle.type_definitions.specs.Presentation.{is_same_sort, is_same_operation, is_same_equation, is_marked_number}
use Rattle.type_definitions.specs.UnionLaws.{IsIn}
use Rattle.type_definitions.specs.Actualisation.{Actualising, actualisation, actualised_sort, actualised_operation, other_sort_image, other_operation_image, other_sorts_of, other_operations_of}
use Rattle.type_flatten.specs.Containment.{StaysIn}

pub record ActualisationsContain : Type 0 where
  -- the actual presentation stays as it is, and gives the marks
  pub actual_stays : (a : Actualising) → StaysIn a.actual (actualisation a)
  pub formal_sorts : (a : Actualising) → (actualisation a).formal_sorts ≡ a.actual.formal_sorts
  pub formal_operations : (a : Actualising) → (actualisation a).formal_operations ≡ a.actual.formal_operations
  -- each sort of the base that is not formal has its image, at its new number, and so has each such operation
  pub sorts_come : (a : Actualising) (i : ℕ) (s : Sort) → slice_get a.base.presentation.signature.sorts i ≡ Some s
      → is_marked_number a.base.presentation.formal_sorts i ≡ false
      → (t : Sort) × (slice_get (actualisation a).signature.sorts (actualised_sort a i) ≡ Some t)
      × (is_same_sort (other_sort_image a s) t ≡ true)
  pub operations_come : (a : Actualising) (i : ℕ) (o : Operation)
      → slice_get a.base.presentation.signature.operations i ≡ Some o
      → is_marked_number a.base.presentation.formal_operations i ≡ false
      → (u : Operation) × (slice_get (actualisation a).signature.operations (actualised_operation a i) ≡ Some u)
      × (is_same_operation (other_operation_image a o) u ≡ true)
  -- each equation of the base has its image, over the actual sorts and operations
  pub equations_come : (a : Actualising) (i : ℕ) (e : Equation) → slice_get a.base.presentation.equations i ≡ Some e
      → (f : Equation) × (j : ℕ) × (slice_get (actualisation a).equations j ≡ Some f)
      × (is_same_equation (equation_image (actualised_sort a) (actualised_operation a) e) f ≡ true)
  -- nothing else is there
  pub no_other_sorts : (a : Actualising) (s : Sort) → IsIn (actualisation a).signature.sorts s
      → IsIn a.actual.signature.sorts s ⊎ IsIn (map (other_sort_image a) (other_sorts_of a.base.presentation)) s
  pub no_other_operations : (a : Actualising) (o : Operation) → IsIn (actualisation a).signature.operations o
      → IsIn a.actual.signature.operations o
      ⊎ IsIn (map (other_operation_image a) (other_operations_of a.base.presentation)) o
  pub no_other_equations : (a : Actualising) (e : Equation) → IsIn (actualisation a).equations e
      → IsIn a.actual.equations e
      ⊎ IsIn (map (equation_image (actualised_sort a) (actualised_operation a)) a.base.presentation.equations) e
