use Rattle.std.proofs.Common.{◌≡◌, ◌+◌, drop, map, length}
use Rattle.induct_check.specs.CertificateReading.{nothing_read}
use Rattle.induct_check.specs.KnownView.{known_signature}
use Rattle.induct_check.specs.ReadingView.{IsKnownReading, reading_in}
use Rattle.induct_check.specs.TextFaults.{ReadText, LinesReadTo}
use Rattle.induct_check.proofs.reading.read_behind.Given as goal

abbrev pub invariant-loop-number : goal.invariant-loop-number
invariant-loop-number l = record {
  comes : (text : ReadText)
      → LinesReadTo (known_signature l.known) (l.number + 1) (reading_in l.reading) (drop l.number (map (λ part. part.now) l.parts)) text
      → LinesReadTo (known_signature l.known) 1 nothing_read (map (λ part. part.now) l.parts) text;
  known : IsKnownReading (known_signature l.known) l.reading;
  last : l.last + 1 ≡ length l.parts;
}
