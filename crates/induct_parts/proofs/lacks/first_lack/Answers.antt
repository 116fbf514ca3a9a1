use Rattle.std.proofs.Common.{◌≡◌, ◌≤◌, length, refl, arith}
use Rattle.std.proofs.lemmas.List.{length-map}
use Rattle.std.proofs.lemmas.Option.{slice_get_read, slice_get_within}
use Rattle.lotos_base.proofs.Members.{at_map}
use Rattle.certificate_theory.proofs.TestedCertificates.{complete_of}
use Rattle.sort_terms.specs.SignatureView.{signature_of}
use Rattle.induct_parts.specs.CertificateView.{cover_in, covers_in, trees_in}
use Rattle.induct_parts.proofs.LackLemmas.{covers_more, first_lack_is}
use Rattle.induct_parts.proofs.lacks.first_lack.Goals as goal

pub returns-in-Some : goal.returns-in-Some
returns-in-Some c = (
  first_lack_is (signature_of c.args.signature.now) (covers_in c.args.covers.now) (trees_in c.args.trees.now) c.loop-number.number
      c.in-Some.operation (cover_in c.index-covers-number.result)
      (at_map cover_in c.args.covers.now c.loop-number.number c.index-covers-number.result
      (slice_get_read c.args.covers.now (length c.args.covers.now) c.loop-number.number c.index-covers-number.result refl
      c.loop-number-test.true c.index-covers-number.is))
      c.in-Some.ensures.0 c.in-Some.ensures.1 c.loop-number.invariant,
  c.loop-number-test.true,
)

pub returns : goal.returns
returns c =
    complete_of (signature_of c.args.signature.now) (covers_in c.args.covers.now) (trees_in c.args.trees.now)
    (λ i g cover at.
    let within = slice_get_within (covers_in c.args.covers.now) i cover at in
    let same : length (covers_in c.args.covers.now) ≡ length c.args.covers.now = length-map c.args.covers.now cover_in in
    let past : length c.args.covers.now ≤ c.loop-number.number = c.loop-number-test.false in
    c.loop-number.invariant i g cover (omega (arith, within, same, past)) at)

pub loop-number-preserved : goal.loop-number-preserved
loop-number-preserved c =
    covers_more (signature_of c.args.signature.now) (covers_in c.args.covers.now) (trees_in c.args.trees.now) c.loop-number.number
    (cover_in c.index-covers-number.result)
    (at_map cover_in c.args.covers.now c.loop-number.number c.index-covers-number.result
    (slice_get_read c.args.covers.now (length c.args.covers.now) c.loop-number.number c.index-covers-number.result refl
    c.loop-number-test.true c.index-covers-number.is))
    c.in-None.ensures c.loop-number.invariant
