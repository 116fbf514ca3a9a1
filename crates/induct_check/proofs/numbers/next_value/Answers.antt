use Rattle.std.proofs.Common.{◌+◌, ◌*◌}
use Rattle.induct_check.proofs.NumberLemmas.{held_top, held_low}
use Rattle.induct_check.proofs.numbers.next_value.Goals as goal

pub returns-then-next : goal.returns-then-next
returns-then-next c = held_top (c.args.value * 10 + c.args.digit) c.if-next.true

pub returns : goal.returns
returns c = held_low (c.args.value * 10 + c.args.digit) c.if-next.false
