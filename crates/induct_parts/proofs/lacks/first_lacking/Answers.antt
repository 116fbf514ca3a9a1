use Rattle.std.specs.Prelude.{IsTrue}
use Rattle.sort_terms.specs.SignatureView.{signature_of}
use Rattle.certificate_theory.specs.Certified.{LacksTree}
use Rattle.induct_parts.specs.CertificateView.{cover_in, trees_in}
use Rattle.induct_parts.proofs.LackLemmas.{lacks_none_more, lacks_none}
use Rattle.induct_parts.proofs.ListedParts.{past_operations}
use Rattle.induct_parts.proofs.lacks.first_lacking.Goals as goal

pub returns-then-lacks : goal.returns-then-lacks
returns-then-lacks c = (c.lacks.ensures.0 c.if-lacks.true, c.loop-operation.invariant)

pub loop-operation-preserved : goal.loop-operation-preserved
loop-operation-preserved c =
    lacks_none_more (LacksTree (signature_of c.args.signature.now) (trees_in c.args.trees.now) (cover_in c.args.cover.now))
    c.loop-operation.operation
    (λ lack. let t : IsTrue c.lacks.result = c.lacks.ensures.1 lack in absurd (cc (t, c.if-lacks.false)))
    c.loop-operation.invariant

pub returns : goal.returns
returns c =
    lacks_none (signature_of c.args.signature.now) (trees_in c.args.trees.now) (cover_in c.args.cover.now) c.loop-operation.operation
    (past_operations c.args.signature.now c.ops-operation-end.result.now c.loop-operation.operation c.ops-operation-end.ensures
    c.loop-operation-test.false)
    c.loop-operation.invariant
