use Rattle.std.proofs.Common.{take}
use Rattle.certificate_theory.proofs.TestedCertificates.{AllOnce}
use Rattle.induct_parts.proofs.covers.differ.Given as goal

abbrev pub invariant-loop-i : goal.invariant-loop-i
invariant-loop-i l = AllOnce (take l.i l.numbers)
