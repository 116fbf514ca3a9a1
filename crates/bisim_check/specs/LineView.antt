-- The lines of certificates that those of the code stand for.
use Rattle.std.specs.Prelude.{ℕ}
use Rattle.certificate_theory.specs.Certificate.{CertificateLine, names_left, names_right, lists_pair}
use Rattle.bisim_check.specs.declared.lines.PairLine.{PairLine}
use Rattle.bisim_check.specs.declared.lines.PairLine.TheVariants.{Left, Right, Pair}
use Rattle.bisim_check.specs.declared.lines.PairTextFault.{PairTextFault}
use Rattle.bisim_check.specs.declared.lines.PairTextFault.TheVariants as text_fault

abbrev pub line_of : PairLine → CertificateLine
line_of (Left from entry) = names_left from entry
line_of (Right from entry) = names_right from entry
line_of (Pair left right) = lists_pair left right

-- the fault names a line with this property, or memory was wanted
abbrev pub BadLineIs : (ℕ → Type 0) → PairTextFault → Type 0
BadLineIs P (text_fault.BadLine line) = P line
BadLineIs P text_fault.NoMemory = Unit {0}
