use Rattle.std.proofs.Common.{take}
use Rattle.lotos_base.specs.PlainView.{arguments_of}
use Rattle.lotos_base.specs.Sorting.{OccursAmong}
use Rattle.lotos_base.proofs.plain.+occurrence.Given as goal

abbrev pub invariant-any_has_variable-loop-term : goal.invariant-any_has_variable-loop-term
invariant-any_has_variable-loop-term l = ¬ OccursAmong l.number l.sort (arguments_of (take l.term-index l.term-items))
