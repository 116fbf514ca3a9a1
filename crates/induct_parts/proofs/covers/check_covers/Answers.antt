use Rattle.std.proofs.Common.{◌≡◌, ◌+◌, refl, arith}
use Rattle.std.specs.Prelude.{IsTrue}
use Rattle.sort_terms.specs.SignatureView.{signature_of}
use Rattle.certificate_theory.specs.Certified.{IsWrongCover, lines_of_cover}
use Rattle.certificate_theory.specs.Covers.{IsRightCover}
use Rattle.induct_parts.specs.CertificateView.{cover_in}
use Rattle.induct_parts.specs.declared.line_fault.LineFault.TheVariants.{BadLine}
use Rattle.induct_parts.proofs.LineSteps.{things_go_on, things_end, thing_wrong}
use Rattle.induct_parts.proofs.covers.check_covers.Goals as goal

pub returns-then-not-is_right-clause-wrong : goal.returns-then-not-is_right-clause-wrong
returns-then-not-is_right-clause-wrong c =
    let at : c.loop-number.number + 1 ≡ c.loop-number.number + 1 + 0 = omega arith in
    thing_wrong (IsRightCover (signature_of c.args.signature.now)) (IsWrongCover (signature_of c.args.signature.now)) lines_of_cover
    cover_in 1 c.args.covers.now c.loop-number.number (c.loop-number.number + 1) (c.loop-number.number + 1) c.index-covers-number.result
    BadLine c.loop-number-test.true c.index-covers-number.is (
      0,
      (
        (λ right. let t : IsTrue c.is_right.result = c.is_right.ensures.1 right in absurd (cc (t, c.if-not-is_right.true))),
        refl,
        refl,
      ),
      at,
    )
    c.loop-number.invariant

pub loop-number-preserved : goal.loop-number-preserved
loop-number-preserved c =
    things_go_on (IsRightCover (signature_of c.args.signature.now)) (IsWrongCover (signature_of c.args.signature.now)) lines_of_cover
    cover_in 1 c.args.covers.now c.loop-number.number (c.loop-number.number + 1) (c.loop-number.number + 1 + 1)
    c.index-covers-number.result c.loop-number-test.true c.index-covers-number.is
    (c.is_right.ensures.0 (cc c.if-not-is_right.false)) refl c.loop-number.invariant

pub returns-clause-right : goal.returns-clause-right
returns-clause-right c =
    things_end (IsRightCover (signature_of c.args.signature.now)) (IsWrongCover (signature_of c.args.signature.now)) lines_of_cover
    cover_in 1 c.args.covers.now c.loop-number.number (c.loop-number.number + 1) c.loop-number-test.false c.loop-number.invariant
