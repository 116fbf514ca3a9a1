use Rattle.std.proofs.Common.{◌≡◌, map, ◌/◌, ◌%◌}
use Rattle.std.specs.List.{range_with_len}
use Rattle.ll_engine.specs.Computed.{is_marked, has_follower}
use Rattle.ll_engine.specs.Related.{related}
use Rattle.ll_engine.proofs.prediction.followers.Given as goal

abbrev pub invariant-loop-cell : goal.invariant-loop-cell
invariant-loop-cell l =
    l.bits.items ≡ map (λ cell. has_follower l.rows (is_marked l.nullable) (related l.first) l.first.tokens l.start (cell / l.width)
    (cell % l.width)) (range_with_len 0 l.cell)
