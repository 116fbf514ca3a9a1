-- Worked cases on certificates that are refused, one for each fault, and on the order of the faults.
use Rattle.std.specs.Prelude.{[], ◌∷◌}
use Rattle.behaviour_semantics.specs.Behaviour.{Behaviour, stop, choice, ask}
use Rattle.certificate_theory.specs.Certificate.{names_left, names_right, lists_pair, no_state, no_entry, open_menu, no_start_pair, unmatched_left, unmatched_right, refused, Comparison}
use Rattle.certificate_theory.specs.Checking.{CertificateComesTo}
use Rattle.worked_cases.specs.BehaviourSamples.{sample_data, sample_canon, nat_variable, offering, event}
use Rattle.worked_cases.specs.BisimulationCases.{buffers, offering_specification}

-- Two behaviours without processes over the sample data.
abbrev pub sample_comparison : Behaviour → Behaviour → Comparison
sample_comparison b c = record {
  data_ = sample_data;
  canon = sample_canon;
  left = offering_specification b;
  right = offering_specification c;
  left_start = b;
  right_start = c;
}

-- `a ?x:Nat; stop` on both sides
abbrev pub asking_both : Comparison
asking_both = sample_comparison (offering 0 (ask (nat_variable 0) ∷ []) stop) (offering 0 (ask (nat_variable 0) ∷ []) stop)

-- `a; stop` and `a; stop [] b; stop`
abbrev pub one_and_two : Comparison
one_and_two = sample_comparison (event 0 stop) (choice (event 0 stop) (event 1 stop))

-- Each fault, with its line and, of a pair, the first entry that is not matched.
pub record FaultsAreNamed : Type 0 where
  -- `r 0 1`, `p 0 2`: two states are named on the right, 0 and 1
  pub no_such_state : CertificateComesTo buffers (names_right 0 1 ∷ lists_pair 0 2 ∷ []) (refused (no_state 2))
  -- `r 0 2` and `r 0 0`: entries are numbered from 1, and there is one
  pub no_such_entry : CertificateComesTo buffers (names_right 0 2 ∷ []) (refused (no_entry 1))
  pub no_entry_nought : CertificateComesTo buffers (names_right 0 0 ∷ []) (refused (no_entry 1))
  -- `l 0 1` and `p 0 0`, where the entry has a variable
  pub open_entry : CertificateComesTo asking_both (names_left 0 1 ∷ []) (refused (open_menu 1))
  pub open_pair : CertificateComesTo asking_both (lists_pair 0 0 ∷ []) (refused (open_menu 1))
  -- `r 0 1`, `r 1 2`, `p 0 2`: the right state 2 is the start again, and the line is not `p 0 0`
  pub no_starts : CertificateComesTo buffers (names_right 0 1 ∷ names_right 1 2 ∷ lists_pair 0 2 ∷ []) (refused no_start_pair)
  -- `p 0 0`: the targets of the one event are not listed
  pub targets_not_listed : CertificateComesTo buffers (lists_pair 0 0 ∷ []) (refused (unmatched_left 1 1))
  -- `l 0 1`, `r 0 1`, `p 0 0`, `p 1 1`: nothing on the left answers the second event on the right
  pub right_not_matched :
      CertificateComesTo one_and_two (names_left 0 1 ∷ names_right 0 1 ∷ lists_pair 0 0 ∷ lists_pair 1 1 ∷ [])
      (refused (unmatched_right 3 2))

-- A fault of a line comes before all faults of pairs, and the missing pair of the starts before an entry that is not matched.
pub record FaultsComeInOrder : Type 0 where
  -- `p 0 0`, `r 0 2`
  pub lines_first : CertificateComesTo buffers (lists_pair 0 0 ∷ names_right 0 2 ∷ []) (refused (no_entry 2))
  -- `r 0 1`, `p 0 1`
  pub starts_then : CertificateComesTo buffers (names_right 0 1 ∷ lists_pair 0 1 ∷ []) (refused no_start_pair)
