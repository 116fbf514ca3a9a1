use Rattle.std.proofs.Common.{refl}
use Rattle.induct_check.proofs.NameLemmas.{not_true}
use Rattle.induct_check.proofs.VariableSteps.{earlier_found, one_not_earlier}
use Rattle.induct_check.proofs.variables.has_earlier.Goals as goal

pub returns-then-same : goal.returns-then-same
returns-then-same c = (
  (λ it. earlier_found c.args.written.now c.loop-earlier.earlier c.args.number c.index-written-earlier.result
      c.index-written-number.result c.loop-earlier-test.true c.requires (c.same.ensures.0 c.if-same.true)),
  (λ it. refl),
)

pub loop-earlier-preserved : goal.loop-earlier-preserved
loop-earlier-preserved c =
    one_not_earlier c.args.written.now c.loop-earlier.earlier c.args.number c.index-written-earlier.result
    c.index-written-number.result c.loop-earlier-test.true c.requires
    (λ same. not_true c.same.result c.if-same.false (c.same.ensures.1 same)) c.loop-earlier.invariant
