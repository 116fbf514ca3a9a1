use Rattle.std.proofs.Common.{◌≡◌, drop}
use Rattle.ll_engine.specs.Computed.{is_marked, follows_in}
use Rattle.ll_engine.specs.Related.{related}
use Rattle.ll_engine.proofs.prediction.follows_in.Given as goal

abbrev pub invariant-loop-place : goal.invariant-loop-place
invariant-loop-place l =
    follows_in (is_marked l.nullable) (related l.first) l.first.tokens l.row.left l.part l.column (drop l.place l.symbols)
    ≡ follows_in (is_marked l.nullable) (related l.first) l.first.tokens l.row.left l.part l.column l.symbols
