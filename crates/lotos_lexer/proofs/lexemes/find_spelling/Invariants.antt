use Rattle.std.proofs.Common.{◌≡◌, drop}
use Rattle.lotos_lexer.specs.Spellings.{rows_of}
use Rattle.lotos_lexer.specs.Lexemes.{spelling_at}
use Rattle.lotos_lexer.proofs.lexemes.find_spelling.Given as goal

-- the bytes begin with no row so far
abbrev pub invariant-loop-row : goal.invariant-loop-row
invariant-loop-row l = spelling_at (rows_of l.table) l.bytes ≡ spelling_at (rows_of (drop l.row-index l.table)) l.bytes
