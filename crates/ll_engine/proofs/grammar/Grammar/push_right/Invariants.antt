use Rattle.std.proofs.Common.{◌≡◌, ◌++◌, take, reverse}
use Rattle.ll_engine.proofs.grammar.Grammar.push_right.Given as goal

abbrev pub invariant-loop-i : goal.invariant-loop-i
invariant-loop-i l = l.stack.items ≡ l.initial.stack.items ++ take l.i (reverse l.right)
