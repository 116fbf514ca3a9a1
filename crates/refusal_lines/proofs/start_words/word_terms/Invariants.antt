use Rattle.std.proofs.Common.{◌+◌, map}
use Rattle.refusal_lines.specs.StartView.{word_term_of}
use Rattle.refusal_lines.specs.WordLimits.{words_of}
use Rattle.refusal_lines.proofs.WordLemmas.{ReadSoFar, left_at}
use Rattle.refusal_lines.proofs.start_words.word_terms.Given as goal

-- the words before this one are read
abbrev pub invariant-loop-index : goal.invariant-loop-index
invariant-loop-index l =
    ReadSoFar (words_of l.words) (l.index + 1) (left_at l.index l.words) (map word_term_of l.terms.items)
