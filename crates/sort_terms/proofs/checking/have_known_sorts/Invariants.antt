use Rattle.std.proofs.Common.{◌≡◌, map, drop}
use Rattle.std.specs.List.{list_all}
use Rattle.sort_terms.specs.Operations.{operation_of}
use Rattle.sort_terms.specs.WellFormedTest.{has_known_sorts}
use Rattle.sort_terms.proofs.checking.have_known_sorts.Given as goal

abbrev pub invariant-loop-op : goal.invariant-loop-op
invariant-loop-op l =
    list_all (has_known_sorts l.sorts) (map operation_of l.ops) ≡ list_all (has_known_sorts l.sorts)
    (map operation_of (drop l.op-index l.ops))
