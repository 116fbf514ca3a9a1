use Rattle.std.proofs.Common.{◌≡◌, drop}
use Rattle.lotos_lexer.specs.Spellings.{rows_of}
use Rattle.lotos_lexer.specs.Lexemes.{kind_in}
use Rattle.lotos_lexer.proofs.lexemes.kind_of.Given as goal

-- the rows so far have other spellings
abbrev pub invariant-loop-row : goal.invariant-loop-row
invariant-loop-row l = kind_in (rows_of l.table) l.spelled ≡ kind_in (rows_of (drop l.row-index l.table)) l.spelled
