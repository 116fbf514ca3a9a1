use Rattle.std.proofs.Common.{◌≡◌, take}
use Rattle.lotos_base.specs.PlainView.{arguments_of}
use Rattle.lotos_base.proofs.plain.+copies.Given as goal

abbrev pub invariant-copies-loop-term : goal.invariant-copies-loop-term
invariant-copies-loop-term l = arguments_of l.made.items ≡ arguments_of (take l.term-index l.term-items)
