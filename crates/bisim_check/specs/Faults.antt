-- The faults of certificates that those of the code stand for.
use Rattle.std.specs.Prelude.{ℕ, Bool, true, false}
use Rattle.certificate_theory.specs.Certificate.{CertificateFault, no_state, no_entry, open_menu, no_start_pair, unmatched_left, unmatched_right}
use Rattle.bisim_check.specs.declared.faults.PairsFault.{PairsFault}
use Rattle.bisim_check.specs.declared.faults.PairsFault.TheVariants as fault

-- an entry on the left or on the right is not matched
abbrev pub unmatched_on : Bool → ℕ → ℕ → CertificateFault
unmatched_on false line entry = unmatched_left line entry
unmatched_on true line entry = unmatched_right line entry

-- the certificate has the fault, or memory was wanted
abbrev pub TellsPairs : (CertificateFault → Type 0) → PairsFault → Type 0
TellsPairs P (fault.NoState line) = P (no_state line)
TellsPairs P (fault.NoEntry line) = P (no_entry line)
TellsPairs P (fault.OpenMenu line) = P (open_menu line)
TellsPairs P fault.NoStartPair = P no_start_pair
TellsPairs P (fault.Unmatched line right entry) = P (unmatched_on right line entry)
TellsPairs P fault.NoMemory = Unit {0}
