use Rattle.std.proofs.Common.{◌<◌, ℕ}
use Rattle.sort_terms.specs.SignatureView.{signature_of}
use Rattle.certificate_theory.specs.Certified.{LacksTree}
use Rattle.induct_parts.specs.CertificateView.{cover_in, trees_in}
use Rattle.induct_parts.proofs.lacks.first_lacking.Given as goal

abbrev pub invariant-loop-operation : goal.invariant-loop-operation
invariant-loop-operation l =
    (g : ℕ) → g < l.operation → ¬ LacksTree (signature_of l.signature) (trees_in l.trees) (cover_in l.cover) g
