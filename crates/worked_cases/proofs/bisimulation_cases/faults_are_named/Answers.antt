use Rattle.std.proofs.Common.{[], ◌∷◌, refl, arith}
use Rattle.certificate_theory.specs.Certificate.{names_right, lists_pair, no_state, no_entry, open_menu, unmatched_left, unmatched_right}
use Rattle.certificate_theory.specs.Checking.{has_faulty_line, lacks_starts, has_faulty_pair}
use Rattle.worked_cases.proofs.FaultyLines.{state_fails, entry_fails, nought_fails, open_entry_fails, open_pair_fails, starts_read, start_again_read, events_read}
use Rattle.worked_cases.proofs.UnmatchedPairs.{lists_no_starts, not_zero, starts_alone_fail, events_fail}
use Rattle.worked_cases.proofs.bisimulation_cases.faults_are_named.Goals as goal

pub returns : goal.returns
returns c = record {
  no_such_state = has_faulty_line (no_state 2) state_fails;
  no_such_entry = has_faulty_line (no_entry 1) entry_fails;
  no_entry_nought = has_faulty_line (no_entry 1) nought_fails;
  open_entry = has_faulty_line (open_menu 1) open_entry_fails;
  open_pair = has_faulty_line (open_menu 1) open_pair_fails;
  no_starts = lacks_starts _ start_again_read
      (lists_no_starts (names_right 0 1 ∷ names_right 1 2 ∷ lists_pair 0 2 ∷ [])
      ((λ e. cc e), ((λ e. cc e), (not_zero 0 2 (omega arith), tt))));
  targets_not_listed = has_faulty_pair _ (unmatched_left 1 1) starts_read (0, refl)
      (starts_alone_fail c.moves_are_determined.ensures);
  right_not_matched = has_faulty_pair _ (unmatched_right 3 2) events_read (2, refl) events_fail;
}
