use Rattle.std.proofs.Common.{sym, ltb-true, ltb-false}
use Rattle.induct_parts.proofs.CoverFacts.{says_no, result_some, result_none}
use Rattle.induct_parts.proofs.covers.has_result.Goals as goal

pub returns-in-Some : goal.returns-in-Some
returns-in-Some c =
    result_some c.args.signature.now c.ops.result.now c.args.operation c.args.sort c.in-Some.op.now c.ops.ensures
    (ltb-true _ _ (sym c.in-Some.ensures.lookup.0)) c.in-Some.ensures.lookup.1

pub returns-in-None : goal.returns-in-None
returns-in-None c =
    says_no (result_none c.args.signature.now c.ops.result.now c.args.operation c.args.sort c.ops.ensures
    (ltb-false _ _ (sym c.in-None.ensures.lookup.0)))
