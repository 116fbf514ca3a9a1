use Rattle.std.proofs.Common.{◌≡◌, ◌+◌, drop, option_map}
use Rattle.lotos_lexer.specs.Pieces.{close_at}
use Rattle.lotos_lexer.proofs.pieces.find_close.Given as goal

-- the comment is not closed so far
abbrev pub invariant-loop-index : goal.invariant-loop-index
invariant-loop-index l = close_at l.bytes ≡ option_map (λ closed. l.index + closed) (close_at (drop l.index l.bytes))
