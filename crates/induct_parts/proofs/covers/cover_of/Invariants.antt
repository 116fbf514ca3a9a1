use Rattle.std.proofs.Common.{◌≡◌, drop}
use Rattle.certificate_theory.specs.Covers.{cover_of}
use Rattle.induct_parts.specs.CertificateView.{covers_in}
use Rattle.induct_parts.proofs.covers.cover_of.Given as goal

abbrev pub invariant-loop-cover : goal.invariant-loop-cover
invariant-loop-cover l = cover_of (covers_in l.covers) l.sort ≡ cover_of (covers_in (drop l.cover-index l.covers)) l.sort
