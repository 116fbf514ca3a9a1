use Rattle.std.proofs.Common.{◌≡◌, drop}
use Rattle.session_histories.specs.TraceLine.{has_return}
use Rattle.session_log.proofs.lines.holds_return.Given as goal

abbrev pub invariant-loop-byte : goal.invariant-loop-byte
invariant-loop-byte l = has_return (drop l.byte-index l.line) ≡ has_return l.line
