-- Laws of unions: what is there stays at its place, what comes is there then, and nothing else is.
use Rattle.std.specs.Prelude.{◌≡◌, ◌⊎◌, ℕ, Bool, true, List, Some, slice_get}
use Rattle.lotos_base.specs.Signature.{Sort, Operation}
use Rattle.lotos_base.specs.Equation.{Equation}
use Rattle.type_definitions.specs.Presentation.{Presentation, is_same_sort, is_same_operation, is_same_equation, with_new, first_position}
use Rattle.type_definitions.specs.Union.{joined_presentation, joined_sort, joined_operation, coming_operations}

-- the member stands in the list
abbrev pub IsIn : {A : Type 0} → List A → A → Type 0
IsIn xs x = (i : ℕ) × (slice_get xs i ≡ Some x)

-- Lists that keep first appearances.
pub record KeepsFirstAppearances (A : Type 0) (same : A → A → Bool) : Type 0 where
  -- what was there stays at its position
  pub stays : (kept xs : List A) (i : ℕ) (x : A) → slice_get kept i ≡ Some x → slice_get (with_new same kept xs) i ≡ Some x
  -- each that comes is there then, or one that is the same
  pub comes : (kept xs : List A) (x : A) → IsIn xs x
      → (y : A) × (slice_get (with_new same kept xs) (first_position (same x) (with_new same kept xs)) ≡ Some y) × (same x y ≡ true)
  -- nothing else is there
  pub adds_nothing : (kept xs : List A) (x : A) → IsIn (with_new same kept xs) x → IsIn kept x ⊎ IsIn xs x

pub record FirstAppearancesAreKept : Type 0 where
  pub sorts : KeepsFirstAppearances Sort is_same_sort
  pub operations : KeepsFirstAppearances Operation is_same_operation
  pub equations : KeepsFirstAppearances Equation is_same_equation

-- A union of two presentations.
pub record UnionsKeepAndAdd : Type 0 where
  -- sorts and operations of the first keep their numbers
  pub sorts_stay : (p q : Presentation) (i : ℕ) (s : Sort) → slice_get p.signature.sorts i ≡ Some s
      → slice_get (joined_presentation p q).signature.sorts i ≡ Some s
  pub operations_stay : (p q : Presentation) (i : ℕ) (o : Operation) → slice_get p.signature.operations i ≡ Some o
      → slice_get (joined_presentation p q).signature.operations i ≡ Some o
  -- each sort of the second has its number there, and so has each operation, over the sorts of the union
  pub sorts_come : (p q : Presentation) (i : ℕ) (s : Sort) → slice_get q.signature.sorts i ≡ Some s
      → (t : Sort) × (slice_get (joined_presentation p q).signature.sorts (joined_sort p q i) ≡ Some t) × (is_same_sort s t ≡ true)
  pub operations_come : (p q : Presentation) (i : ℕ) (o : Operation) → slice_get (coming_operations p q) i ≡ Some o
      → (u : Operation) × (slice_get (joined_presentation p q).signature.operations (joined_operation p q i) ≡ Some u)
      × (is_same_operation o u ≡ true)
  -- nothing else is there
  pub no_other_sorts : (p q : Presentation) (s : Sort) → IsIn (joined_presentation p q).signature.sorts s
      → IsIn p.signature.sorts s ⊎ IsIn q.signature.sorts s
  pub no_other_operations : (p q : Presentation) (o : Operation) → IsIn (joined_presentation p q).signature.operations o
      → IsIn p.signature.operations o ⊎ IsIn (coming_operations p q) o
