use Rattle.std.proofs.Common.{◌≡◌, map, drop}
use Rattle.std.specs.List.{list_any}
use Rattle.sort_terms.specs.Operations.{operation_of}
use Rattle.sort_terms.specs.WellFormedTest.{are_one_operation}
use Rattle.sort_terms.proofs.checking.is_op_behind.Given as goal

abbrev pub invariant-loop-i : goal.invariant-loop-i
invariant-loop-i l = list_any (are_one_operation (operation_of l.op)) (map operation_of (drop l.from l.ops)) ≡ list_any
    (are_one_operation (operation_of l.op)) (map operation_of (drop l.i l.ops))
