use Rattle.std.proofs.Common.{◌≡◌, ◌+◌, length}
use Rattle.session_log.specs.Lines.{digit_count}
use Rattle.session_log.proofs.lines.leading_digits.Given as goal

abbrev pub invariant-loop-rest : goal.invariant-loop-rest
invariant-loop-rest l = (l.count + digit_count l.rest ≡ digit_count l.bytes) × (l.count + length l.rest ≡ length l.bytes)

abbrev pub decreases-loop-rest : goal.decreases-loop-rest
decreases-loop-rest l = length l.rest
