use Rattle.std.proofs.Common.{◌≡◌, ◌++◌, map, drop}
use Rattle.sort_terms.specs.Operations.{operation_of}
use Rattle.value_lists.specs.FoundView.{shared_operations_in}
use Rattle.value_lists.proofs.values.shared_profiles.Given as goal

abbrev pub invariant-loop-op : goal.invariant-loop-op
invariant-loop-op l = shared_operations_in l.made.items ++ map operation_of (drop l.op-index l.ops) ≡ map operation_of l.ops
