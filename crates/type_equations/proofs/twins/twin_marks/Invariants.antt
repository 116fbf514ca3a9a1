use Rattle.std.proofs.Common.{◌≡◌, ◌++◌, map, drop}
use Rattle.std.specs.List.{list_any}
use Rattle.lotos_base.specs.Twins.{are_twins}
use Rattle.sort_terms.specs.Operations.{operation_of}
use Rattle.sort_terms.specs.TwinMarks.{twin_marks}
use Rattle.type_equations.proofs.twins.twin_marks.Given as goal

abbrev pub invariant-loop-op : goal.invariant-loop-op
invariant-loop-op l =
    l.marks.items ++ map (λ o. list_any (are_twins o) (map operation_of l.ops)) (map operation_of (drop l.op-index l.ops))
    ≡ twin_marks (map operation_of l.ops)
