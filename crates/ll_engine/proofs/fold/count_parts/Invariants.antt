use Rattle.std.proofs.Common.{◌≡◌, ◌+◌, ◌≤◌, drop}
use Rattle.ll_engine.specs.Run.{count_parts}
use Rattle.ll_engine.proofs.fold.count_parts.Given as goal

abbrev pub invariant-loop-symbol : goal.invariant-loop-symbol
invariant-loop-symbol l = (l.count ≤ l.symbol-index) × (count_parts (drop l.symbol-index l.symbols) + l.count ≡ count_parts l.symbols)
