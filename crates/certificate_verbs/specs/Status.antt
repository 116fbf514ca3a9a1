-- The number that the program ends with, for each way that a run ends.
use Rattle.std.specs.Prelude.{ℕ}
use Rattle.certificate_verbs.specs.declared.ended.Ended.{Ended}
use Rattle.certificate_verbs.specs.declared.ended.Ended.TheVariants.{Done, SpecRefused, WordsRefused, FileFault, InputFault, OutputFault, NoMemory, InputTooLong, CertificateRefused}

-- the status of the program
abbrev pub status_number : Ended → ℕ
status_number Done = 0
status_number SpecRefused = 1
status_number WordsRefused = 2
status_number FileFault = 3
status_number InputFault = 4
status_number OutputFault = 5
status_number NoMemory = 6
status_number InputTooLong = 7
status_number CertificateRefused = 8
