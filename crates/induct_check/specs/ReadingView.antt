-- What was read by the code, and what is known of it.
use Rattle.std.specs.Prelude.{Option}
use Rattle.std.specs.Option.{option_map}
use Rattle.lotos_base.specs.Signature.{Signature}
use Rattle.induct_parts.specs.CertificateView.{certificate_in, covers_in}
use Rattle.induct_parts.specs.SettingView.{IsKnownCertificate}
use Rattle.induct_check.specs.CertificateReading.{ReadSoFar}
use Rattle.induct_check.specs.KnownView.{CoversHaveResults}
use Rattle.induct_check.specs.PieceView.{open_part_in, IsKnownPart}
use Rattle.induct_check.specs.TextFaults as plain
use Rattle.induct_check.specs.TextFaults.{ReadText}
use Rattle.induct_check.specs.declared.reading.Reading.{Reading}
use Rattle.induct_check.specs.declared.reading.Read.{Read}
use Rattle.induct_check.specs.declared.reading.Stop.{Stop}

abbrev pub reading_in : Reading → ReadSoFar
reading_in reading = record { certificate = certificate_in reading.certificate; part = open_part_in reading.part }

abbrev pub stop_of : Stop → plain.Stop
stop_of stop = record { line = stop.line; early = stop.early }

abbrev pub read_text : Read → ReadText
read_text read = record { certificate = certificate_in read.certificate; stop = option_map stop_of read.stop }

-- what the text comes to that stops here behind what was read, if it stops
abbrev pub stopping : Reading → Option Stop → ReadText
stopping reading stop = record { certificate = certificate_in reading.certificate; stop = option_map stop_of stop }

-- The certificate, the results of its covers and the open part are known.
pub record IsKnownReading (signature : Signature) (reading : Reading) : Type 0 where
  pub certificate : IsKnownCertificate signature reading.certificate
  pub covers : CoversHaveResults signature (covers_in reading.certificate.covers.items)
  pub part : IsKnownPart signature (open_part_in reading.part)
