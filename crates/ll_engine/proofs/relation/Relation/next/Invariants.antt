use Rattle.std.proofs.Common.{◌≡◌, map, ◌/◌, ◌%◌}
use Rattle.std.specs.List.{range_with_len}
use Rattle.ll_engine.specs.Related.{next_related}
use Rattle.ll_engine.proofs.relation.Relation.next.Given as goal

abbrev pub invariant-loop-cell : goal.invariant-loop-cell
invariant-loop-cell l =
    l.bits.items ≡ map (λ cell. next_related l.self (cell / l.width) (cell % l.width)) (range_with_len 0 l.cell)
