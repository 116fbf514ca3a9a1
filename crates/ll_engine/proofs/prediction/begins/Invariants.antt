use Rattle.std.proofs.Common.{◌≡◌, drop}
use Rattle.ll_engine.specs.Computed.{is_marked, begins}
use Rattle.ll_engine.specs.Related.{related}
use Rattle.ll_engine.proofs.prediction.begins.Given as goal

abbrev pub invariant-loop-symbol : goal.invariant-loop-symbol
invariant-loop-symbol l =
    begins (is_marked l.nullable) (related l.first) l.first.tokens l.column (drop l.symbol-index l.symbols)
    ≡ begins (is_marked l.nullable) (related l.first) l.first.tokens l.column l.symbols
