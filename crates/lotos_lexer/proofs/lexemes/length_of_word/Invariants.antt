use Rattle.std.proofs.Common.{◌≡◌, ◌≤◌, drop}
use Rattle.lotos_lexer.specs.Lexemes.{word_length}
use Rattle.lotos_lexer.proofs.Words.{joined}
use Rattle.lotos_lexer.proofs.lexemes.length_of_word.Given as goal

-- the word so far, and the end of its last letter or digit
abbrev pub invariant-loop-index : goal.invariant-loop-index
invariant-loop-index l = (word_length l.bytes ≡ joined l.end l.index (word_length (drop l.index l.bytes))) × (l.end ≤ l.index)
