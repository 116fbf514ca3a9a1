use Rattle.std.proofs.Common.{sym}
use Rattle.process_checks.proofs.AgreementLemmas.{other_lengths}
use Rattle.process_checks.proofs.functionalities.same.Goals as goal

pub returns-then-left-right : goal.returns-then-left-right
returns-then-left-right c = sym (other_lengths c.args.left.now c.args.right.now c.if-left-right.true)
