-- The clash of one renamed sort or operation with an earlier one.
use Rattle.std.specs.Prelude.{ℕ, Bool, ◌&&◌, nat_eq, List, Option, None, Some, if◌then◌else◌}
use Rattle.std.specs.Str.{bytes_eq}
use Rattle.lotos_base.specs.Signature.{Sort, Operation}
use Rattle.lotos_base.specs.Twins.{form_eq}
use Rattle.syntax_trees.specs.WrittenItem.{WrittenPair, WrittenPairs}
use Rattle.sort_terms.specs.ReadingOutcome.{one_name}
use Rattle.sort_terms.specs.WellFormedTest.{are_one_sort, are_one_operation}
use Rattle.type_definitions.specs.TypeFault.{TypeFault, double_sort, double_operation}
use Rattle.type_definitions.specs.Renaming.{pair_for, renamed_sort, renamed_operation, clash_with}

-- of a sort
abbrev pub sort_clash : List ℕ → WrittenPairs → List Sort → Sort → Option TypeFault
sort_clash type_name pairs earlier sort =
    clash_with
    (λ (one : Sort) (other : Sort). are_one_sort (renamed_sort type_name pairs one) (renamed_sort type_name pairs other))
    (λ (s : Sort). pair_for pairs.sort_pairs s.name) double_sort earlier sort

-- of an operation
abbrev pub operation_clash : List ℕ → WrittenPairs → List Operation → Operation → Option TypeFault
operation_clash type_name pairs earlier operation =
    clash_with
    (λ (one : Operation) (other : Operation).
    are_one_operation (renamed_operation type_name pairs one) (renamed_operation type_name pairs other))
    (λ (o : Operation). pair_for pairs.operation_pairs o.name) double_operation earlier operation

-- the pair, if it gives the name
abbrev pub giving : Option WrittenPair → List ℕ → Option WrittenPair
giving None name = None
giving (Some pair) name = if one_name pair.given name then Some pair else None

-- whether two operations have one form and profile
abbrev pub have_one_profile : Operation → Operation → Bool
have_one_profile one other =
    form_eq one.form other.form && (bytes_eq one.arguments other.arguments && nat_eq one.result other.result)

-- the pair, if it gives an operation the name of another one of its form and profile
abbrev pub giving_operation : Option WrittenPair → Operation → Operation → Option WrittenPair
giving_operation pair earlier operation = if have_one_profile earlier operation then giving pair operation.name else None

-- the fault at a pair of sorts
abbrev pub sort_fault_at : WrittenPair → TypeFault
sort_fault_at pair = double_sort pair.place pair.given

-- the fault at a pair of operations
abbrev pub operation_fault_at : WrittenPair → TypeFault
operation_fault_at pair = double_operation pair.place pair.given
