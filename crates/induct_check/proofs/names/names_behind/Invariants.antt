use Rattle.std.proofs.Common.{◌≡◌, ◌++◌, ◌+◌, ℕ, List, length, map, drop}
use Rattle.lotos_base.specs.Name.{spelling}
use Rattle.induct_check.specs.CertificateReading.{argument_names}
use Rattle.induct_check.proofs.names.names_behind.Given as goal

abbrev pub invariant-loop-number : goal.invariant-loop-number
invariant-loop-number l = (ss : List ℕ) → length ss ≡ l.count
    → map spelling l.made.items ++ argument_names (spelling l.name) (1 + l.number) (drop l.number ss)
    ≡ map spelling l.names ++ argument_names (spelling l.name) 1 ss
