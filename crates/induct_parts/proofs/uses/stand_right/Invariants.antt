use Rattle.std.proofs.Common.{take}
use Rattle.lotos_base.proofs.Each.{Each}
use Rattle.induct_parts.specs.UseView.{StandsRight}
use Rattle.induct_parts.proofs.uses.stand_right.Given as goal

abbrev pub invariant-loop-pair : goal.invariant-loop-pair
invariant-loop-pair l = Each (StandsRight l.proving l.source) (take l.pair-index l.pairs)
