use Rattle.std.proofs.Common.{length, take, ◌-◌, ◌≤◌}
use Rattle.std.specs.Io.KnownBytes.{Appends}
use Rattle.real_outside.proofs.loops.write_all_of.Given as goal

-- the first bytes are written
abbrev pub invariant-loop-written : goal.invariant-loop-written
invariant-loop-written g l =
    (l.written ≤ length l.bytes)
    × Appends (g.F.Write.contents l.initial.file) (g.F.Write.contents l.file) (take l.written l.bytes)

abbrev pub decreases-loop-written : goal.decreases-loop-written
decreases-loop-written g l = length l.bytes - l.written
