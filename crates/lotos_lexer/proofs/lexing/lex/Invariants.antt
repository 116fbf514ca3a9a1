use Rattle.std.proofs.Common.{◌≡◌, ◌-◌, length, All}
use Rattle.lotos_lexer.specs.Tokens.{tokens_of, IsTokenOf}
use Rattle.lotos_lexer.specs.Cutting.{cut_by, IsInside}
use Rattle.lotos_lexer.proofs.lexing.lex.Given as goal

-- what is cut and what is left make the tokens of the text
abbrev pub invariant-loop-cutting : goal.invariant-loop-cutting
invariant-loop-cutting l = (cut_by l.number l.text l.cutting ≡ tokens_of l.number l.text) × IsInside l.text l.cutting
    × All (IsTokenOf l.text) l.cutting.tokens.items

abbrev pub decreases-loop-cutting : goal.decreases-loop-cutting
decreases-loop-cutting l = length l.text - l.cutting.position.offset
