use Rattle.std.proofs.Common.{◌≡◌, map, drop}
use Rattle.sort_terms.specs.Operations.{operation_of}
use Rattle.sort_terms.specs.WellFormedTest.{all_differ, are_one_operation}
use Rattle.sort_terms.proofs.checking.ops_differ.Given as goal

abbrev pub invariant-loop-i : goal.invariant-loop-i
invariant-loop-i l = all_differ are_one_operation (map operation_of l.ops) ≡ all_differ are_one_operation
    (map operation_of (drop l.i l.ops))
