use Rattle.std.proofs.Common.{◌≡◌, ◌+◌, length, take, drop, option_map}
use Rattle.session_histories.specs.TraceLine.{around_arrow}
use Rattle.session_log.specs.Lines.{with_bytes}
use Rattle.session_log.proofs.lines.arrow_position.Given as goal

abbrev pub invariant-loop-rest : goal.invariant-loop-rest
invariant-loop-rest l =
    (option_map (with_bytes (take l.position l.line)) (around_arrow l.rest) ≡ around_arrow l.line)
    × (l.position + length l.rest ≡ length l.line) × (l.rest ≡ drop l.position l.line)

abbrev pub decreases-loop-rest : goal.decreases-loop-rest
decreases-loop-rest l = length l.rest
