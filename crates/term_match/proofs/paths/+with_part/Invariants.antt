use Rattle.std.proofs.Common.{length}
use Rattle.term_match.proofs.paths.+with_part.Given as goal

-- the path becomes shorter
abbrev pub decreases-with_part : goal.decreases-with_part
decreases-with_part l = length l.path.now
