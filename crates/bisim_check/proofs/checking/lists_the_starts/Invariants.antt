use Rattle.std.proofs.Common.{◌≡◌, ◌<◌, ℕ, map, Some, slice_get}
use Rattle.certificate_theory.specs.Certificate.{CertificateLine, lists_pair}
use Rattle.bisim_check.specs.LineView.{line_of}
use Rattle.bisim_check.proofs.checking.lists_the_starts.Given as goal

abbrev pub invariant-loop-line : goal.invariant-loop-line
invariant-loop-line l =
    (k : ℕ) (line : CertificateLine) → k < l.line-index → slice_get (map line_of l.lines) k ≡ Some line → line ≡ lists_pair 0 0 → ⊥
