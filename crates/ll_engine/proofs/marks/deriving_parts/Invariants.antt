use Rattle.std.proofs.Common.{◌≡◌, ◌-◌}
use Rattle.ll_engine.proofs.Lists.{set_count}
use Rattle.ll_engine.proofs.MarkRounds.{AreSound}
use Rattle.ll_engine.proofs.marks.deriving_parts.Given as goal

abbrev pub invariant-loop-marks : goal.invariant-loop-marks
invariant-loop-marks l = (AreSound l.rows l.parts l.tokens_pass l.marks.items) × (l.count ≡ set_count l.marks.items)

abbrev pub decreases-loop-marks : goal.decreases-loop-marks
decreases-loop-marks l = l.parts - l.count
