use Rattle.std.proofs.Common.{◌≡◌, ◌+◌, drop}
use Rattle.lotos_lexer.specs.Tokens.{behind_all, IsOfText}
use Rattle.lotos_lexer.proofs.positions.Position.after.Given as goal

-- the bytes so far are passed
abbrev pub invariant-loop-byte : goal.invariant-loop-byte
invariant-loop-byte l = (behind_all l.bytes l.fn.self ≡ behind_all (drop l.byte-index l.bytes) l.position)
    × (l.position.offset ≡ l.fn.self.offset + l.byte-index) × IsOfText l.position
