-- The presentation of a type that renames another one: the image of its base, whose listed sorts and operations get the new
-- name and the renaming type as origin. Numbers, equations and marks stay.
use Rattle.std.specs.Prelude.{ℕ, Bool, not, List, [], ◌∷◌, ◌++◌, map, Option, None, Some, if◌then◌else◌}
use Rattle.std.specs.List.{list_any}
use Rattle.lotos_base.specs.Signature.{Signature, Sort, Operation}
use Rattle.lotos_base.specs.Equation.{Place}
use Rattle.syntax_trees.specs.WrittenItem.{WrittenPair, WrittenPairs}
use Rattle.sort_terms.specs.ReadingOutcome.{one_name, is_sort_name}
use Rattle.sort_terms.specs.WellFormedTest.{are_one_sort, are_one_operation}
use Rattle.type_definitions.specs.TypeFault.{TypeFault, double_sort, double_operation, unknown_sort, unknown_operation, fault_if, first_fault}
use Rattle.type_definitions.specs.Presentation.{Presentation}

-- ---- What the pairs make of sorts and operations.

-- the first pair with this old name
abbrev pub pair_for : List WrittenPair → List ℕ → Option WrittenPair
pair_for [] name = None
pair_for (pair ∷ pairs) name = if one_name pair.replaced.name name then Some pair else pair_for pairs name

-- the sort under a pair, if there is one
abbrev pub sort_under : List ℕ → Option WrittenPair → Sort → Sort
sort_under type_name None sort = sort
sort_under type_name (Some pair) sort = record { name = pair.given; origin = type_name }

-- the operation under a pair, if there is one: its form stays, and its sorts keep their numbers
abbrev pub operation_under : List ℕ → Option WrittenPair → Operation → Operation
operation_under type_name None operation = operation
operation_under type_name (Some pair) operation = record {
  name = pair.given;
  form = operation.form;
  arguments = operation.arguments;
  result = operation.result;
  origin = type_name;
}

abbrev pub renamed_sort : List ℕ → WrittenPairs → Sort → Sort
renamed_sort type_name pairs sort = sort_under type_name (pair_for pairs.sort_pairs sort.name) sort

abbrev pub renamed_operation : List ℕ → WrittenPairs → Operation → Operation
renamed_operation type_name pairs operation = operation_under type_name (pair_for pairs.operation_pairs operation.name) operation

-- the presentation of the renaming of this base
abbrev pub renamed_presentation : Presentation → List ℕ → WrittenPairs → Presentation
renamed_presentation base type_name pairs = record {
  signature = record {
    sorts = map (renamed_sort type_name pairs) base.signature.sorts;
    operations = map (renamed_operation type_name pairs) base.signature.operations;
  };
  equations = base.equations;
  formal_sorts = base.formal_sorts;
  formal_operations = base.formal_operations;
}

-- ---- Faults of pairs, in text order.

-- whether one of the pairs has this old name
abbrev pub is_old_name : List WrittenPair → List ℕ → Bool
is_old_name pairs name = list_any (λ (pair : WrittenPair). one_name pair.replaced.name name) pairs

-- whether one of the pairs has this new name
abbrev pub is_new_name : List WrittenPair → List ℕ → Bool
is_new_name pairs name = list_any (λ (pair : WrittenPair). one_name pair.given name) pairs

-- whether an operation has the name, in either form
abbrev pub names_operation : Signature → List ℕ → Bool
names_operation signature name = list_any (λ (o : Operation). one_name o.name name) signature.operations

-- an old name of no sort; then one that an earlier pair has; then a new name that one of those earlier pairs has with which
-- this pair may not share it
abbrev pub sort_pair_fault : Signature → List WrittenPair → List WrittenPair → WrittenPair → Option TypeFault
sort_pair_fault signature earlier unshared pair =
    first_fault
    (fault_if (not (is_sort_name signature pair.replaced.name)) (unknown_sort pair.replaced.place (Some pair.replaced.name)))
    (first_fault (fault_if (is_old_name earlier pair.replaced.name) (double_sort pair.place pair.given))
    (fault_if (is_new_name unshared pair.given) (double_sort pair.place pair.given)))

-- an old name of no operation; then one that an earlier pair has
abbrev pub operation_pair_fault : Signature → List WrittenPair → WrittenPair → Option TypeFault
operation_pair_fault signature earlier pair =
    first_fault
    (fault_if (not (names_operation signature pair.replaced.name)) (unknown_operation pair.replaced.place pair.replaced.name))
    (fault_if (is_old_name earlier pair.replaced.name) (double_operation pair.place pair.given))

-- the first fault of sort pairs behind earlier ones. In a renaming no two share a new name
abbrev pub sort_pairs_fault : Signature → List WrittenPair → List WrittenPair → Option TypeFault
sort_pairs_fault signature earlier [] = None
sort_pairs_fault signature earlier (pair ∷ pairs) =
    first_fault (sort_pair_fault signature earlier earlier pair) (sort_pairs_fault signature (earlier ++ pair ∷ []) pairs)

-- the first fault of operation pairs behind earlier ones
abbrev pub operation_pairs_fault : Signature → List WrittenPair → List WrittenPair → Option TypeFault
operation_pairs_fault signature earlier [] = None
operation_pairs_fault signature earlier (pair ∷ pairs) =
    first_fault (operation_pair_fault signature earlier pair)
    (operation_pairs_fault signature (earlier ++ pair ∷ []) pairs)

-- ---- Clashes of images, in the order of the base.

-- the fault at the pair of the later one, or where it has none at that of the earlier one
abbrev pub clash_at : (Place → List ℕ → TypeFault) → Option WrittenPair → Option WrittenPair → Option TypeFault
clash_at kind (Some later) earlier = Some (kind later.place later.given)
clash_at kind None (Some earlier) = Some (kind earlier.place earlier.given)
clash_at kind None None = None

-- the clash of one member with the first of the earlier ones whose image is the same
abbrev pub clash_with : {A : Type 0} → (A → A → Bool) → (A → Option WrittenPair) → (Place → List ℕ → TypeFault) → List A → A
    → Option TypeFault
clash_with same pair_of kind [] x = None
clash_with same pair_of kind (y ∷ ys) x =
    if same y x then clash_at kind (pair_of x) (pair_of y) else clash_with same pair_of kind ys x

-- the first clash of a member of the list with one before it
abbrev pub clash_among : {A : Type 0} → (A → A → Bool) → (A → Option WrittenPair) → (Place → List ℕ → TypeFault) → List A
    → List A → Option TypeFault
clash_among same pair_of kind earlier [] = None
clash_among same pair_of kind earlier (x ∷ xs) =
    first_fault (clash_with same pair_of kind earlier x) (clash_among same pair_of kind (earlier ++ x ∷ []) xs)

-- two sorts of the base whose images have one name
abbrev pub renamed_sort_clash : Presentation → List ℕ → WrittenPairs → Option TypeFault
renamed_sort_clash base type_name pairs =
    clash_among
    (λ (one : Sort) (other : Sort). are_one_sort (renamed_sort type_name pairs one) (renamed_sort type_name pairs other))
    (λ (sort : Sort). pair_for pairs.sort_pairs sort.name) double_sort [] base.signature.sorts

-- two operations of the base whose images have one name, form and profile
abbrev pub renamed_operation_clash : Presentation → List ℕ → WrittenPairs → Option TypeFault
renamed_operation_clash base type_name pairs =
    clash_among
    (λ (one : Operation) (other : Operation).
    are_one_operation (renamed_operation type_name pairs one) (renamed_operation type_name pairs other))
    (λ (operation : Operation). pair_for pairs.operation_pairs operation.name) double_operation [] base.signature.operations

-- ---- The first fault of the renaming: of the pairs of sorts, of those of operations, of the sorts, of the operations.
abbrev pub renaming_fault : Presentation → List ℕ → WrittenPairs → Option TypeFault
renaming_fault base type_name pairs =
    first_fault (sort_pairs_fault base.signature [] pairs.sort_pairs)
    (first_fault (operation_pairs_fault base.signature [] pairs.operation_pairs)
    (first_fault (renamed_sort_clash base type_name pairs) (renamed_operation_clash base type_name pairs)))
