use Rattle.induct_check.proofs.NumberLemmas.{nought_is_most}
use Rattle.induct_check.proofs.numbers.from_nought_on.Goals as goal

pub returns-then-number-eq0 : goal.returns-then-number-eq0
returns-then-number-eq0 c = nought_is_most c.args.number c.if-number-eq0.true
