use Rattle.std.proofs.Common.{take}
use Rattle.bisim_check.specs.OneByOne.{OneByOne}
use Rattle.bisim_check.proofs.agreeing.all_agree.Given as goal

abbrev pub invariant-loop-i : goal.invariant-loop-i
invariant-loop-i g l = OneByOne g.T.Agreeing.agree (take l.i l.members) (take l.i l.others)
