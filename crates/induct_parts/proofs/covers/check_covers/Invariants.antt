use Rattle.certificate_theory.specs.Certified.{IsWrongCover, lines_of_cover}
use Rattle.certificate_theory.specs.Covers.{IsRightCover}
use Rattle.std.proofs.Common.{◌+◌}
use Rattle.sort_terms.specs.SignatureView.{signature_of}
use Rattle.induct_parts.specs.CertificateView.{cover_in}
use Rattle.induct_parts.proofs.LineSteps.{RightSoFar}
use Rattle.induct_parts.proofs.covers.check_covers.Given as goal

abbrev pub invariant-loop-number : goal.invariant-loop-number
invariant-loop-number l =
    RightSoFar (IsRightCover (signature_of l.signature)) (IsWrongCover (signature_of l.signature)) lines_of_cover cover_in 1 l.covers
    l.number (l.number + 1)
