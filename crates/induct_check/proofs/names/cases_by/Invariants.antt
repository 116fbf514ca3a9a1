use Rattle.std.proofs.Common.{Some}
use Rattle.lotos_base.specs.Name.{spelling}
use Rattle.induct_parts.proofs.StepLemmas.{IsMadeSoFar, listed_makes}
use Rattle.induct_check.specs.CertificateReading.{cases_by, named_behind}
use Rattle.induct_check.specs.KnownView.{known_signature}
use Rattle.induct_check.specs.NameView.{named_case_in, named_cases_in}
use Rattle.induct_check.proofs.names.cases_by.Given as goal

abbrev pub invariant-loop-operation : goal.invariant-loop-operation
invariant-loop-operation l =
    IsMadeSoFar (listed_makes (named_behind (named_case_in l.point) (spelling l.name)) l.operations)
    (known_signature l.known).operations
    (cases_by (known_signature l.known) (named_case_in l.point) (spelling l.name) (Some l.operations))
    l.operation (named_cases_in l.made.items)
