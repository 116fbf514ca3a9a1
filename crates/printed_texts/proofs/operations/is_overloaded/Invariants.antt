use Rattle.std.proofs.Common.{◌≡◌, map, drop}
use Rattle.std.specs.List.{list_any}
use Rattle.sort_terms.specs.Operations.{operation_of}
use Rattle.lotos_base.specs.Twins.{are_twins}
use Rattle.printed_texts.proofs.operations.is_overloaded.Given as goal

-- the operations so far are no twins
abbrev pub invariant-loop-other : goal.invariant-loop-other
invariant-loop-other l =
    list_any (are_twins (operation_of l.operation)) (map operation_of (drop l.other-index l.other-items))
    ≡ list_any (are_twins (operation_of l.operation)) (map operation_of l.other-items)
