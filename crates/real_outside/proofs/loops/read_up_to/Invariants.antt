use Rattle.std.proofs.Common.{length, vec_len, ◌-◌, ◌≤◌, ◌≡◌}
use Rattle.std.specs.Io.KnownBytes.{Consumes}
use Rattle.real_outside.proofs.loops.read_up_to.Given as goal

-- what is read is within the limit, and is what the reader gave from the start
abbrev pub invariant-loop-piece : goal.invariant-loop-piece
invariant-loop-piece g l =
    (length l.into.items ≤ l.limit) × (vec_len l.into ≡ length l.into.items)
    × Consumes (g.F.Read.remaining l.initial.file) (g.F.Read.remaining l.file) l.into.items

abbrev pub decreases-loop-piece : goal.decreases-loop-piece
decreases-loop-piece g l = l.limit - vec_len l.into
