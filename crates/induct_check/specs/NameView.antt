-- The named cases that those of the code stand for.
use Rattle.std.specs.Prelude.{List, map}
use Rattle.lotos_base.specs.Name.{spelling}
use Rattle.induct_check.specs.CertificateReading as plain
use Rattle.induct_check.specs.declared.names.NamedCase.{NamedCase}

abbrev pub named_case_in : NamedCase → plain.NamedCase
named_case_in point = record { names = map spelling point.names.items; sorts = point.sorts.items }

abbrev pub named_cases_in : List NamedCase → List plain.NamedCase
named_cases_in points = map named_case_in points
