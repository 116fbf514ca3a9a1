use Rattle.std.specs.Prelude.{IsTrue}
use Rattle.sort_terms.specs.SignatureView.{signature_of}
use Rattle.certificate_theory.specs.Covers.{HasResult}
use Rattle.induct_parts.proofs.CoverFacts.{says_no, says_yes, members_more, members_all, member_fails}
use Rattle.induct_parts.proofs.covers.have_result.Goals as goal

pub returns-then-not-has_result : goal.returns-then-not-has_result
returns-then-not-has_result c =
    says_no (member_fails (HasResult (signature_of c.args.signature.now) c.args.sort) c.args.operations.now
    c.loop-operation.operation-index c.loop-operation-test.true
    (λ h. let t : IsTrue c.has_result.result = c.has_result.ensures.1 h in absurd (cc (t, c.if-not-has_result.true))))

pub loop-operation-preserved : goal.loop-operation-preserved
loop-operation-preserved c =
    members_more (HasResult (signature_of c.args.signature.now) c.args.sort) c.args.operations.now
    c.loop-operation.operation-index c.loop-operation-test.true (c.has_result.ensures.0 (cc c.if-not-has_result.false))
    c.loop-operation.invariant

pub returns : goal.returns
returns c =
    says_yes (members_all (HasResult (signature_of c.args.signature.now) c.args.sort) c.args.operations.now
    c.loop-operation.operation-index c.loop-operation-test.false c.loop-operation.invariant)
