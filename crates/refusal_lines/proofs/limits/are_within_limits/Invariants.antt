use Rattle.std.proofs.Common.{◌≡◌, ◌+◌, ◌≤◌, drop}
use Rattle.refusal_lines.specs.WordLimits.{word_bytes_limit, words_of, total_length}
use Rattle.refusal_lines.proofs.limits.are_within_limits.Given as goal

-- the bytes of the words so far
abbrev pub invariant-loop-word : goal.invariant-loop-word
invariant-loop-word l = (total_length (words_of l.words) ≡ l.total + total_length (words_of (drop l.word-index l.words)))
    × (l.total ≤ word_bytes_limit)
