use Rattle.std.proofs.Common.{◌≡◌, ◌+◌, length}
use Rattle.line_server.specs.Line.{length_to_space}
use Rattle.line_server.proofs.words.first_word_length.Given as goal

abbrev pub invariant-loop-rest : goal.invariant-loop-rest
invariant-loop-rest l = (l.count + length_to_space l.rest ≡ length_to_space l.line) × (l.count + length l.rest ≡ length l.line)

abbrev pub decreases-loop-rest : goal.decreases-loop-rest
decreases-loop-rest l = length l.rest
