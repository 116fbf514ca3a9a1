use Rattle.std.proofs.Common.{◌+◌, ◌<◌, ◌^◌, ℕ, List, length, map, sym, subst, arith}
use Rattle.std.proofs.lemmas.List.{length-map}
use Rattle.lotos_base.proofs.Each.{each_member}
use Rattle.induct_check.specs.CertificateLines.{line_form_of}
use Rattle.induct_check.specs.CertificateReading.{nothing_read}
use Rattle.induct_check.specs.KnownView.{CoversHaveResults, known_signature}
use Rattle.induct_parts.specs.CertificateView.{covers_in}
use Rattle.induct_parts.specs.declared.certificates.Cover.{Cover}
use Rattle.induct_check.specs.PieceView.{open_part_in, piece_in}
use Rattle.induct_check.specs.ReadingView.{reading_in, stopping}
use Rattle.induct_check.specs.TextFaults.{LinesReadTo, stopped_at}
use Rattle.induct_check.specs.declared.pieces.LineOutcome.TheVariants as outcome
use Rattle.induct_check.proofs.LineSteps.{line_read, line_stops, line_fails, rest_read}
use Rattle.induct_check.proofs.OutcomeLemmas.{over_covers}
use Rattle.induct_check.proofs.reading.read_behind.Goals as goal

pub understood-requires-clause-short : goal.understood-requires-clause-short
understood-requires-clause-short c =
    each_member (λ (part : List ℕ). length part + 1 < 2 ^ 32) (map (λ part. part.now) c.args.parts.now) c.loop-number.number
    c.part_at-line.result.now c.requires.short c.part_at-line.ensures

pub understood-requires-clause-covers : goal.understood-requires-clause-covers
understood-requires-clause-covers c =
    subst (λ (cs : List Cover). CoversHaveResults (known_signature c.args.known.now) (covers_in cs)) (sym c.as_slice-covers.ensures.value)
    c.loop-number.invariant.known.covers

pub returns-in-Nothing-clause-read : goal.returns-in-Nothing-clause-read
returns-in-Nothing-clause-read c =
    let signature = known_signature c.args.known.now in
    let parts = map (λ part. part.now) c.args.parts.now in
    let line = c.part_at-line.result.now in
    let reading = c.loop-number.reading in
    let h =
    over_covers signature c.as_slice-covers.result.now reading.certificate.covers.items (open_part_in reading.part) (line_form_of line)
    c.in_ok-piece.field-0 outcome.Nothing c.as_slice-covers.ensures.value c.in-Nothing.is c.in_ok-piece.ensures in
    subst (λ text. LinesReadTo signature 1 nothing_read parts text) (sym c.stopped_at.ensures)
    (c.loop-number.invariant.comes (stopped_at (reading_in reading) (c.loop-number.number + 1) line)
    (line_stops parts signature c.loop-number.number line (reading_in reading)
    (omega (arith, length-map c.args.parts.now (λ part. part.now), c.loop-number.invariant.last, c.loop-number-test.true))
    c.part_at-line.ensures h.0 h.1))

pub returns-in-WithLeft-clause-read : goal.returns-in-WithLeft-clause-read
returns-in-WithLeft-clause-read c =
    let signature = known_signature c.args.known.now in
    let parts = map (λ part. part.now) c.args.parts.now in
    let line = c.part_at-line.result.now in
    let reading = c.loop-number.reading in
    let h =
    over_covers signature c.as_slice-covers.result.now reading.certificate.covers.items (open_part_in reading.part) (line_form_of line)
    c.in_ok-piece.field-0 outcome.WithLeft c.as_slice-covers.ensures.value c.in-WithLeft.is c.in_ok-piece.ensures in
    subst (λ text. LinesReadTo signature 1 nothing_read parts text) (sym c.stopped_at-in-WithLeft.ensures)
    (c.loop-number.invariant.comes (stopped_at (reading_in reading) c.loop-number.number line)
    (line_fails parts signature c.loop-number.number line (reading_in reading)
    (omega (arith, length-map c.args.parts.now (λ part. part.now), c.loop-number.invariant.last, c.loop-number-test.true))
    c.part_at-line.ensures h))

pub loop-number-preserved : goal.loop-number-preserved
loop-number-preserved c =
    let signature = known_signature c.args.known.now in
    let parts = map (λ part. part.now) c.args.parts.now in
    let line = c.part_at-line.result.now in
    let reading = c.loop-number.reading in
    let h =
    over_covers signature c.as_slice-covers.result.now reading.certificate.covers.items (open_part_in reading.part) (line_form_of line)
    c.in_ok-piece.field-0 (outcome.Piece c.in-Piece.piece) c.as_slice-covers.ensures.value c.in-Piece.is c.in_ok-piece.ensures in
    record {
      comes = λ text rest. c.loop-number.invariant.comes text
          (line_read parts signature c.loop-number.number line (reading_in reading) (reading_in c.add.new.reading)
          (piece_in c.in-Piece.piece) text
          (omega (arith, length-map c.args.parts.now (λ part. part.now), c.loop-number.invariant.last, c.loop-number-test.true))
          c.part_at-line.ensures h.0 c.in_ok-add-in-Piece.ensures.added rest);
      known = c.in_ok-add-in-Piece.ensures.known c.loop-number.invariant.known h.1;
      last = c.loop-number.invariant.last;
    }

pub returns-clause-read : goal.returns-clause-read
returns-clause-read c =
    let signature = known_signature c.args.known.now in
    let parts = map (λ part. part.now) c.args.parts.now in
    c.loop-number.invariant.comes (stopping c.loop-number.reading c.ended.result)
    (rest_read parts signature c.loop-number.number _ c.part_at.result.now (reading_in c.loop-number.reading)
    (stopping c.loop-number.reading c.ended.result)
    c.loop-number.auto.number-end c.loop-number-test.false
    (omega (arith, length-map c.args.parts.now (λ part. part.now), c.loop-number.invariant.last))
    c.part_at.ensures (c.ended.ensures signature))
