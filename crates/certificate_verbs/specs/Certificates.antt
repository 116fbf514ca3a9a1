-- What is printed for a certificate of bisimulation: the line that it is accepted, and the line of each refusal.
use Rattle.std.specs.Prelude.{ℕ, List, ◌++◌, codes, decimal}
use Rattle.certificate_theory.specs.Certificate.{CertificateFault, no_state, no_entry, open_menu, no_start_pair, unmatched_left, unmatched_right}
use Rattle.certificate_verbs.specs.Finishing.{Print, print}
use Rattle.certificate_verbs.specs.declared.ended.Ended.TheVariants.{Done, CertificateRefused}

-- Why it is refused: its text is too long; the data of the two specifications differ; a line has none of the forms; or what its
-- lines say is refused.
pub data CertificateRefusal : Type 0 where
  too_long other_data : CertificateRefusal
  bad_line : (line : ℕ) → CertificateRefusal
  faulty : CertificateFault → CertificateRefusal

-- a refusal at a line
abbrev pub refusal_at_line : (refusal : List ℕ) (line : ℕ) → List ℕ
refusal_at_line refusal line = refusal ++ codes " line " ++ decimal line ++ codes "\n"

-- a refusal at the line of a pair, for an entry of one side
abbrev pub at_entry : (line : ℕ) (side : List ℕ) (entry : ℕ) → List ℕ
at_entry line side entry = codes "refused 907 Unmatched line " ++ decimal line ++ side ++ decimal entry ++ codes "\n"

abbrev pub fault_line : CertificateFault → List ℕ
fault_line (no_state line) = refusal_at_line (codes "refused 903 NoState") line
fault_line (no_entry line) = refusal_at_line (codes "refused 904 NoEntry") line
fault_line (open_menu line) = refusal_at_line (codes "refused 905 OpenMenu") line
fault_line no_start_pair = codes "refused 906 NoStartPair\n"
fault_line (unmatched_left line entry) = at_entry line (codes " left ") entry
fault_line (unmatched_right line entry) = at_entry line (codes " right ") entry

abbrev pub certificate_refusal_text : CertificateRefusal → List ℕ
certificate_refusal_text too_long = codes "refused 900 TooLong\n"
certificate_refusal_text other_data = codes "refused 901 OtherData\n"
certificate_refusal_text (bad_line line) = refusal_at_line (codes "refused 902 BadLine") line
certificate_refusal_text (faulty fault) = fault_line fault

abbrev pub refused_printed : CertificateRefusal → Print
refused_printed refusal = print (certificate_refusal_text refusal) CertificateRefused

-- so many pairs are listed, and show the two specifications bisimilar
abbrev pub bisimilar_text : ℕ → List ℕ
bisimilar_text number = codes "bisimilar " ++ decimal number ++ codes " pairs\n"

abbrev pub bisimilar_printed : ℕ → Print
bisimilar_printed number = print (bisimilar_text number) Done
