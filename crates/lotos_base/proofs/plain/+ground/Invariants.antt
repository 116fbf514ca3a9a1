use Rattle.std.proofs.Common.{take}
use Rattle.lotos_base.specs.PlainView.{arguments_of}
use Rattle.lotos_base.specs.Sorting.{AreGround}
use Rattle.lotos_base.proofs.plain.+ground.Given as goal

abbrev pub invariant-are_ground-loop-term : goal.invariant-are_ground-loop-term
invariant-are_ground-loop-term l = AreGround (arguments_of (take l.term-index l.term-items))
