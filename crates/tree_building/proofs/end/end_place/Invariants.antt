use Rattle.std.proofs.Common.{◌≡◌, ◌+◌, ◌≤◌, drop}
use Rattle.lotos_lexer.specs.Tokens.{behind_all, start}
use Rattle.tree_building.proofs.end.end_place.Given as goal

abbrev pub invariant-loop-byte : goal.invariant-loop-byte
invariant-loop-byte l =
    (behind_all (drop l.byte-index l.text) (record { offset = l.byte-index; line = l.line; column = l.col }) ≡ behind_all l.text start)
    × (l.line ≤ l.byte-index + 1) × (l.col ≤ l.byte-index + 1)
