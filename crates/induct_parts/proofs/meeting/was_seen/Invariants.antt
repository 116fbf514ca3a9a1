use Rattle.std.proofs.Common.{◌≡◌, drop}
use Rattle.induct_parts.specs.Meeting.{is_seen}
use Rattle.induct_parts.proofs.meeting.was_seen.Given as goal

abbrev pub invariant-loop-known : goal.invariant-loop-known
invariant-loop-known l = is_seen l.seen l.number l.sort ≡ is_seen (drop l.known-index l.seen) l.number l.sort
