-- How one presentation lies in another one: with the numbers that it has, or under maps of the numbers of its sorts and operations.
use Rattle.std.specs.Prelude.{◌≡◌, ℕ, true, Some, slice_get}
use Rattle.lotos_base.specs.Signature.{Signature, Sort, Operation, IsSort, IsOperation}
use Rattle.lotos_base.specs.Equation.{Equation}
use Rattle.type_definitions.specs.Images.{operation_image, equation_image}
use Rattle.type_definitions.specs.Presentation.{Presentation, is_same_sort, is_same_operation, is_same_equation, is_marked_number}

-- The sorts, operations and equations of the first stand at the same positions in the second, and what is marked in the first
-- is marked in the second.
pub record StaysIn (p r : Presentation) : Type 0 where
  pub sorts : (i : ℕ) (s : Sort) → slice_get p.signature.sorts i ≡ Some s → slice_get r.signature.sorts i ≡ Some s
  pub operations : (i : ℕ) (o : Operation) → slice_get p.signature.operations i ≡ Some o
      → slice_get r.signature.operations i ≡ Some o
  pub equations : (i : ℕ) (e : Equation) → slice_get p.equations i ≡ Some e → slice_get r.equations i ≡ Some e
  pub formal_sorts : (n : ℕ) → is_marked_number p.formal_sorts n ≡ true → is_marked_number r.formal_sorts n ≡ true
  pub formal_operations : (n : ℕ) → is_marked_number p.formal_operations n ≡ true → is_marked_number r.formal_operations n ≡ true

-- Each sort of the first is one of the second, at its new number. So is each operation and each equation, once it speaks of the
-- new numbers, and what is marked in the first is marked in the second.
pub record LiesIn (to_sort to_operation : ℕ → ℕ) (q r : Presentation) : Type 0 where
  pub sorts : (i : ℕ) (s : Sort) → slice_get q.signature.sorts i ≡ Some s
      → (t : Sort) × (slice_get r.signature.sorts (to_sort i) ≡ Some t) × (is_same_sort s t ≡ true)
  pub operations : (i : ℕ) (o : Operation) → slice_get q.signature.operations i ≡ Some o
      → (u : Operation) × (slice_get r.signature.operations (to_operation i) ≡ Some u)
      × (is_same_operation (operation_image to_sort o) u ≡ true)
  pub equations : (i : ℕ) (e : Equation) → slice_get q.equations i ≡ Some e
      → (f : Equation) × (j : ℕ) × (slice_get r.equations j ≡ Some f)
      × (is_same_equation (equation_image to_sort to_operation e) f ≡ true)
  pub formal_sorts : (n : ℕ) → is_marked_number q.formal_sorts n ≡ true → is_marked_number r.formal_sorts (to_sort n) ≡ true
  pub formal_operations : (n : ℕ) → is_marked_number q.formal_operations n ≡ true
      → is_marked_number r.formal_operations (to_operation n) ≡ true

-- Different sorts of the signature get different numbers, and so do different operations.
pub record IsOneToOne (to_sort to_operation : ℕ → ℕ) (signature : Signature) : Type 0 where
  pub sorts : (s t : ℕ) → IsSort signature s → IsSort signature t → to_sort s ≡ to_sort t → s ≡ t
  pub operations : (f g : ℕ) (o p : Operation) → IsOperation signature f o → IsOperation signature g p
      → to_operation f ≡ to_operation g → f ≡ g
