use Rattle.std.proofs.Common.{◌≡◌, ◌+◌, drop, map}
use Rattle.lotos_base.specs.Name.{spelling}
use Rattle.induct_check.specs.CertificateReading.{number_named}
use Rattle.induct_check.proofs.names.number_named.Given as goal

abbrev pub invariant-loop-number : goal.invariant-loop-number
invariant-loop-number l =
    number_named (map spelling l.names) (spelling l.name)
    ≡ l.number + number_named (map spelling (drop l.number l.names)) (spelling l.name)
