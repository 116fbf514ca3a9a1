use Rattle.std.proofs.Common.{◌≡◌, ◌<◌, ℕ}
use Rattle.std.specs.Prelude.{Some, slice_get}
use Rattle.sort_terms.specs.SignatureView.{signature_of}
use Rattle.certificate_theory.specs.Covers.{HasResult}
use Rattle.induct_parts.proofs.covers.have_result.Given as goal

abbrev pub invariant-loop-operation : goal.invariant-loop-operation
invariant-loop-operation l =
    (i f : ℕ) → i < l.operation-index → slice_get l.operations i ≡ Some f → HasResult (signature_of l.signature) l.sort f
