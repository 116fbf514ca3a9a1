use Rattle.std.proofs.Common.{◌≡◌, ◌++◌, map, drop}
use Rattle.sort_terms.specs.Operations.{operation_of}
use Rattle.type_equations.proofs.signatures.op_copies.Given as goal

abbrev pub invariant-loop-op : goal.invariant-loop-op
invariant-loop-op l =
    map operation_of l.made.items ++ map (λ op. operation_of op.value) (drop l.op-index l.ops) ≡ map (λ op. operation_of op.value) l.ops
