use Rattle.std.proofs.Common.{◌≡◌, ◌<◌, ℕ}
use Rattle.std.specs.Prelude.{Some, slice_get}
use Rattle.sort_terms.specs.SignatureView.{signature_of}
use Rattle.certificate_theory.specs.InductionCertificate.{Cover}
use Rattle.certificate_theory.specs.Certified.{LacksTree}
use Rattle.induct_parts.specs.CertificateView.{covers_in, trees_in}
use Rattle.induct_parts.proofs.lacks.first_lack.Given as goal

abbrev pub invariant-loop-number : goal.invariant-loop-number
invariant-loop-number l =
    (j g : ℕ) (earlier : Cover) → j < l.number → slice_get (covers_in l.covers) j ≡ Some earlier
    → ¬ LacksTree (signature_of l.signature) (trees_in l.trees) earlier g
