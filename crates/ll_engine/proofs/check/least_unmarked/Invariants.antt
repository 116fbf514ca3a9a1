use Rattle.std.proofs.Common.{◌≡◌, ℕ, ◌<◌, false}
use Rattle.std.specs.Prelude.{not}
use Rattle.ll_engine.specs.Computed.{is_marked}
use Rattle.ll_engine.proofs.check.least_unmarked.Given as goal

abbrev pub invariant-loop-part : goal.invariant-loop-part
invariant-loop-part l = (k : ℕ) → k < l.part → not (is_marked l.marks k) ≡ false
