use Rattle.std.proofs.Common.{◌≤◌, length, arith}
use Rattle.step_taker.proofs.PairLemmas.{without_actuals}
use Rattle.step_taker.proofs.targets.gate_pairs.Goals as goal

pub returns-then-i-len : goal.returns-then-i-len
returns-then-i-len c =
    let past : length c.args.actuals.now.items ≤ c.loop-i.i = omega arith in
    without_actuals c.args.formals.now.items c.args.actuals.now.items c.loop-i.pairs.items c.loop-i.i past c.loop-i.invariant
