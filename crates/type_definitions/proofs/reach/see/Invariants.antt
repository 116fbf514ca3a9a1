use Rattle.std.proofs.Common.{take}
use Rattle.type_definitions.specs.Reaching.{Sees}
use Rattle.type_definitions.proofs.reach.see.Given as goal

abbrev pub invariant-loop-number : goal.invariant-loop-number
invariant-loop-number l = Sees (take l.number-index l.mentioned) l.fn.seen l.fn.work.items l.seen l.work.items
