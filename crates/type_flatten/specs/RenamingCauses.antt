-- The causes of the faults of a renaming, in their order: its pairs, and then images that coincide.
use Rattle.std.specs.Prelude.{◌≡◌, ◌<◌, ℕ, List, [], Option, None, Some, slice_get}
use Rattle.lotos_base.specs.Equation.{Place}
use Rattle.lotos_base.specs.Signature.{Sort, Operation}
use Rattle.syntax_trees.specs.WrittenItem.{WrittenPair, WrittenPairs}
use Rattle.type_definitions.specs.TypeFault.{TypeFault, double_sort, double_operation}
use Rattle.type_definitions.specs.Presentation.{Presentation}
use Rattle.type_definitions.specs.Renaming.{pair_for, renamed_sort, renamed_operation}
use Rattle.type_flatten.specs.FirstCause.{and_also}
use Rattle.type_flatten.specs.FaultCauses.{Cause, OrElse, FirstAlong, AreOneSort, AreAlikeOperations, SortPairBrings, OperationPairBrings, with_earlier_pair}

-- the fault stands at the pair of the later one, or where it has none at that of the earlier one
abbrev pub FaultStandsAt : (Place → List ℕ → TypeFault) → Option WrittenPair → Option WrittenPair → Cause
FaultStandsAt kind (Some later) earlier fault = fault ≡ kind later.place later.given
FaultStandsAt kind None (Some earlier) fault = fault ≡ kind earlier.place earlier.given
FaultStandsAt kind None None fault = ⊥

-- the member meets one of the earlier ones, the first of those that it meets
pub record Coincides {A : Type 0} (Same : A → A → Type 0) (pair_of : A → Option WrittenPair) (kind : Place → List ℕ → TypeFault)
    (earlier : List A) (x : A) (fault : TypeFault) : Type 0 where
  pub i : ℕ
  pub other : A
  pub found : slice_get earlier i ≡ Some other
  pub same : Same other x
  pub first : (k : ℕ) (y : A) → k < i → slice_get earlier k ≡ Some y → ¬ Same y x
  pub stands : FaultStandsAt kind (pair_of x) (pair_of other) fault

-- the images of two sorts have one name, and those of two operations one name, form and profile
abbrev pub SortsMeet : List ℕ → WrittenPairs → List Sort → Sort → Cause
SortsMeet type_name pairs =
    Coincides (λ (one : Sort) (other : Sort). AreOneSort (renamed_sort type_name pairs one) (renamed_sort type_name pairs other))
    (λ (sort : Sort). pair_for pairs.sort_pairs sort.name) double_sort

abbrev pub OperationsMeet : List ℕ → WrittenPairs → List Operation → Operation → Cause
OperationsMeet type_name pairs =
    Coincides
    (λ (one : Operation) (other : Operation).
    AreAlikeOperations (renamed_operation type_name pairs one) (renamed_operation type_name pairs other))
    (λ (operation : Operation). pair_for pairs.operation_pairs operation.name) double_operation

-- the pairs of sorts, those of operations, the images of sorts, and those of operations
abbrev pub RenamingBrings : Presentation → List ℕ → WrittenPairs → Cause
RenamingBrings base type_name pairs =
    OrElse (FirstAlong (SortPairBrings base.signature) with_earlier_pair [] pairs.sort_pairs)
    (OrElse (FirstAlong (OperationPairBrings base.signature) with_earlier_pair [] pairs.operation_pairs)
    (OrElse (FirstAlong (SortsMeet type_name pairs) and_also [] base.signature.sorts)
    (FirstAlong (OperationsMeet type_name pairs) and_also [] base.signature.operations)))
