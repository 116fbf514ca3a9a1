use Rattle.std.proofs.Common.{[], ◌∷◌, arith}
use Rattle.certificate_theory.specs.Certificate.{names_right, lists_pair, no_entry}
use Rattle.certificate_theory.specs.Checking.{has_faulty_line, lacks_starts}
use Rattle.worked_cases.proofs.FaultyLines.{later_fails, other_pair_read}
use Rattle.worked_cases.proofs.UnmatchedPairs.{lists_no_starts, not_zero}
use Rattle.worked_cases.proofs.bisimulation_cases.faults_come_in_order.Goals as goal

pub returns : goal.returns
returns c = record {
  lines_first = has_faulty_line (no_entry 2) later_fails;
  starts_then = lacks_starts _ other_pair_read
      (lists_no_starts (names_right 0 1 ∷ lists_pair 0 1 ∷ []) ((λ e. cc e), (not_zero 0 1 (omega arith), tt)));
}
