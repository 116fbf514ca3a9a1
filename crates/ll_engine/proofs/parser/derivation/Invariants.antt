use Rattle.std.proofs.Common.{◌+◌, ◌-◌, ◌^◌, length, reverse, vec_len}
use Rattle.ll_engine.specs.Walk.{IsReachedByRows}
use Rattle.ll_engine.proofs.parser.derivation.Given as goal

abbrev pub invariant-loop-symbol : goal.invariant-loop-symbol
invariant-loop-symbol l = IsReachedByRows l.grammar l.tokens l.at l.rows.items (reverse l.stack.items)

-- each turn takes a token or adds a row, of which there is no room for more than so many
abbrev pub decreases-loop-symbol : goal.decreases-loop-symbol
decreases-loop-symbol l = (2 ^ 64 - vec_len l.rows) + (length l.tokens - l.at)
