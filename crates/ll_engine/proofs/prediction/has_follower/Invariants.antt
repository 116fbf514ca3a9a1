use Rattle.std.proofs.Common.{◌≡◌, drop}
use Rattle.std.specs.List.{list_any}
use Rattle.ll_engine.specs.Computed.{is_marked, follows_in}
use Rattle.ll_engine.specs.Related.{related}
use Rattle.ll_engine.proofs.prediction.has_follower.Given as goal

abbrev pub invariant-loop-row : goal.invariant-loop-row
invariant-loop-row l =
    list_any (λ row. follows_in (is_marked l.nullable) (related l.first) l.first.tokens row.left l.part l.column row.right.items)
    (drop l.row-index l.rows)
    ≡ list_any (λ row. follows_in (is_marked l.nullable) (related l.first) l.first.tokens row.left l.part l.column row.right.items) l.rows
