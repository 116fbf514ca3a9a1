use Rattle.std.proofs.Common.{arith}
use Rattle.step_parts.proofs.LeafLemmas.{enough_left, too_few}
use Rattle.step_parts.proofs.leaves.are_too_few.Goals as goal

pub returns-then-first-many : goal.returns-then-first-many
returns-then-first-many c = too_few c.args.many c.args.first c.args.wanted (omega arith)

pub returns : goal.returns
returns c = enough_left c.args.many c.args.first c.args.wanted (omega arith)
