use Rattle.std.proofs.Common.{◌≡◌, drop}
use Rattle.ll_engine.specs.Computed.{is_marked, has_corner}
use Rattle.ll_engine.specs.Related.{related}
use Rattle.ll_engine.proofs.prediction.has_corner.Given as goal

abbrev pub invariant-loop-row : goal.invariant-loop-row
invariant-loop-row l =
    has_corner (drop l.row-index l.rows) (is_marked l.nullable) (related l.first) l.first.tokens l.part l.column
    ≡ has_corner l.rows (is_marked l.nullable) (related l.first) l.first.tokens l.part l.column
