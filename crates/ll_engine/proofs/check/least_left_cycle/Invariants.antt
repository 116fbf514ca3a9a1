use Rattle.std.proofs.Common.{◌≡◌, ℕ, ◌<◌, false}
use Rattle.ll_engine.specs.Computed.{part_column}
use Rattle.ll_engine.specs.Related.{related}
use Rattle.ll_engine.proofs.check.least_left_cycle.Given as goal

abbrev pub invariant-loop-part : goal.invariant-loop-part
invariant-loop-part l = (k : ℕ) → k < l.part → related l.first k (part_column l.first.tokens k) ≡ false
