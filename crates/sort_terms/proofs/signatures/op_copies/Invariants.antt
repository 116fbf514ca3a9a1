use Rattle.std.proofs.Common.{◌≡◌, ◌++◌, map, drop, length}
use Rattle.sort_terms.specs.Operations.{operation_of}
use Rattle.sort_terms.proofs.signatures.op_copies.Given as goal

abbrev pub invariant-loop-op : goal.invariant-loop-op
invariant-loop-op l =
    (map operation_of l.made.items ++ map operation_of (drop l.op-index l.op-items) ≡ map operation_of l.op-items)
    × (length l.made.items ≡ l.op-index)
