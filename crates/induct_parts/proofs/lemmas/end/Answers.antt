use Rattle.std.proofs.Common.{ap}
use Rattle.std.specs.Prelude.{IsTrue}
use Rattle.certificate_theory.specs.Faults.{not_same}
use Rattle.induct_parts.proofs.CaseSteps.{copy_same}
use Rattle.induct_parts.proofs.lemmas.end.Goals as goal

pub returns-clause-wrong : goal.returns-clause-wrong
returns-clause-wrong c = (
  (λ e. let t : IsTrue c.same.result = c.same.ensures.1 e in absurd (cc (t, c.if-same.false))),
  ap not_same (copy_same c.in_ok-goal.goal c.args.point.now.goal c.in_ok-goal.ensures),
)
