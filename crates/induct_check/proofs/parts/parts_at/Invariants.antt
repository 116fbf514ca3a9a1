use Rattle.std.proofs.Common.{◌≡◌, ◌++◌, map, length}
use Rattle.induct_check.specs.CertificateLines.{parts_at}
use Rattle.induct_check.proofs.parts.parts_at.Given as goal

abbrev pub invariant-loop-two : goal.invariant-loop-two
invariant-loop-two l =
    map (λ part. part.now) l.parts.items ++ parts_at l.separator l.rest ≡ parts_at l.separator l.bytes

abbrev pub decreases-loop-two : goal.decreases-loop-two
decreases-loop-two l = length l.rest
