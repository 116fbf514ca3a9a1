use Rattle.std.proofs.Common.{◌≡◌, ◌+◌, drop}
use Rattle.std.specs.List.{prefix_len}
use Rattle.lotos_lexer.specs.Bytes.{is_sign}
use Rattle.lotos_lexer.proofs.lexemes.length_of_run.Given as goal

-- the bytes so far are signs
abbrev pub invariant-loop-index : goal.invariant-loop-index
invariant-loop-index l = prefix_len is_sign l.bytes ≡ l.index + prefix_len is_sign (drop l.index l.bytes)
