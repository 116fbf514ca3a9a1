use Rattle.std.proofs.Common.{◌≡◌, drop, map}
use Rattle.sort_terms.specs.Operations.{operation_of}
use Rattle.scope_parts.specs.Sorts.{true_from}
use Rattle.scope_parts.proofs.constants.true_of_sort.Given as goal

abbrev pub invariant-loop-number : goal.invariant-loop-number
invariant-loop-number l =
    true_from l.sort l.number (map operation_of (drop l.number l.ops)) ≡ true_from l.sort 0 (map operation_of l.ops)
