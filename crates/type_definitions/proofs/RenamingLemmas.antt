-- Members that no pair renames stay.
use Rattle.type_definitions.specs.Renaming.{pair_for, operation_under, renamed_operation, sort_under, renamed_sort}
use Rattle.syntax_trees.specs.WrittenItem.{WrittenPair, WrittenPairs}
use Rattle.lotos_base.specs.Signature.{Operation, Sort}
use Rattle.std.proofs.Common.{◌≡◌, ℕ, List, ap}
use Rattle.std.specs.Prelude.{Option, None}

pub unpaired_operation : (type_name : List ℕ) (pairs : WrittenPairs) (o : Operation) → pair_for pairs.operation_pairs o.name ≡ None
    → renamed_operation type_name pairs o ≡ o
unpaired_operation type_name pairs o none = ap (λ (p : Option WrittenPair). operation_under type_name p o) none

pub unpaired_sort : (type_name : List ℕ) (pairs : WrittenPairs) (s : Sort) → pair_for pairs.sort_pairs s.name ≡ None
    → renamed_sort type_name pairs s ≡ s
unpaired_sort type_name pairs s none = ap (λ (o : Option WrittenPair). sort_under type_name o s) none
