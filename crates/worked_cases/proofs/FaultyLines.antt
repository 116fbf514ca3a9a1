-- Lines of certificates that are read, and lines that are faulty.
use Rattle.std.proofs.Common.{List, [], ◌∷◌, refl}
use Rattle.behaviour_semantics.specs.Behaviour.{Behaviour, stop}
use Rattle.behaviour_semantics.specs.Label.{gate_event}
use Rattle.behaviour_semantics.specs.Shape.{act, left_side, right_side, called}
use Rattle.certificate_theory.specs.Certificate.{names_left, names_right, lists_pair, no_state, no_entry, open_menu, first_reading, compared_side_of}
use Rattle.certificate_theory.specs.NamedStates.{NamesState, HasOpenMenu, ListsStates, right_is_missing, left_is_open, entry_is_missing, entry_is_open, LinesAreRead, all_read, one_read, LinesFail, fails_here, fails_later}
use Rattle.worked_cases.specs.BehaviourSamples.{sample_data, sample_canon}
use Rattle.worked_cases.specs.BisimulationCases.{empty_buffer, place_of_places, two_place_buffer, buffers}
use Rattle.worked_cases.specs.CertificateCases.{asking_both, one_and_two}
use Rattle.worked_cases.proofs.CertificateTests.{names, closed_menu}
use Rattle.worked_cases.proofs.BufferMenus.{holding_none, holding_one, exact_holding_none, exact_holding_one}
use Rattle.worked_cases.proofs.BufferPairs.{state_of, closed_none_full, closed_none, closed_one, pair_of}
use Rattle.worked_cases.proofs.OfferPairs.{closed_stop, one_event, two_events, exact_event, exact_events, asking_entry, exact_asking}
use Rattle.worked_cases.proofs.UnmatchedPairs.{start_pairs, event_pairs}

-- ---- The buffers.

abbrev start_left : List Behaviour
start_left = state_of empty_buffer empty_buffer ∷ []

-- `r 0 1` from the start
to_one : NamesState (compared_side_of sample_data sample_canon two_place_buffer) (place_of_places 0 ∷ []) 0 1 (place_of_places 1)
to_one = names two_place_buffer _ 0 1 _ holding_none (called act) (gate_event 1 []) _ exact_holding_none refl refl refl

-- `r 1 2` after it
to_none : NamesState (compared_side_of sample_data sample_canon two_place_buffer) (place_of_places 0 ∷ place_of_places 1 ∷ []) 1 2
    (place_of_places 0)
to_none = names two_place_buffer _ 1 2 _ holding_one (called (right_side act)) (gate_event 0 []) _ exact_holding_one refl refl refl

pub state_fails : LinesFail buffers (first_reading buffers) 1 (names_right 0 1 ∷ lists_pair 0 2 ∷ []) (no_state 2)
state_fails = fails_later (place_of_places 1, to_one, refl) (fails_here (right_is_missing refl))

pub entry_fails : LinesFail buffers (first_reading buffers) 1 (names_right 0 2 ∷ []) (no_entry 1)
entry_fails = fails_here (entry_is_missing (place_of_places 0) holding_none refl exact_holding_none refl)

pub nought_fails : LinesFail buffers (first_reading buffers) 1 (names_right 0 0 ∷ []) (no_entry 1)
nought_fails = fails_here (entry_is_missing (place_of_places 0) holding_none refl exact_holding_none refl)

starts_pair : ListsStates buffers (first_reading buffers) 0 0 (state_of empty_buffer empty_buffer) (place_of_places 0)
starts_pair = record { left_named = refl; right_named = refl; left_closed = closed_none_full; right_closed = closed_none }

pub later_fails : LinesFail buffers (first_reading buffers) 1 (lists_pair 0 0 ∷ names_right 0 2 ∷ []) (no_entry 2)
later_fails =
    fails_later (state_of empty_buffer empty_buffer, place_of_places 0, starts_pair, refl)
    (fails_here (entry_is_missing (place_of_places 0) holding_none refl exact_holding_none refl))

pub starts_read : LinesAreRead buffers (first_reading buffers) 1 (lists_pair 0 0 ∷ [])
    (record { lefts = start_left; rights = place_of_places 0 ∷ []; pairs = start_pairs })
starts_read = one_read (state_of empty_buffer empty_buffer, place_of_places 0, starts_pair, refl) all_read

pub other_pair_read : LinesAreRead buffers (first_reading buffers) 1 (names_right 0 1 ∷ lists_pair 0 1 ∷ [])
    (record {
      lefts = start_left;
      rights = place_of_places 0 ∷ place_of_places 1 ∷ [];
      pairs = pair_of 2 (state_of empty_buffer empty_buffer) (place_of_places 1) ∷ [];
    })
other_pair_read =
    one_read (place_of_places 1, to_one, refl)
    (one_read (
      state_of empty_buffer empty_buffer,
      place_of_places 1,
      record {
        left_named = refl;
        right_named = refl;
        left_closed = closed_none_full;
        right_closed = closed_one;
      },
      refl,
    ) all_read)

pub start_again_read : LinesAreRead buffers (first_reading buffers) 1 (names_right 0 1 ∷ names_right 1 2 ∷ lists_pair 0 2 ∷ [])
    (record {
      lefts = start_left;
      rights = place_of_places 0 ∷ place_of_places 1 ∷ place_of_places 0 ∷ [];
      pairs = pair_of 3 (state_of empty_buffer empty_buffer) (place_of_places 0) ∷ [];
    })
start_again_read =
    one_read (place_of_places 1, to_one, refl)
    (one_read (place_of_places 0, to_none, refl)
    (one_read (
      state_of empty_buffer empty_buffer,
      place_of_places 0,
      record {
        left_named = refl;
        right_named = refl;
        left_closed = closed_none_full;
        right_closed = closed_none;
      },
      refl,
    ) all_read))

-- ---- Entries with variables.

asking_open : HasOpenMenu (compared_side_of sample_data sample_canon asking_both.left) asking_both.left_start
asking_open = record {
  menu = asking_entry ∷ [];
  exact = exact_asking;
  entry = asking_entry;
  there = (0, refl);
  open_entry = λ none. cc none;
}

pub open_entry_fails : LinesFail asking_both (first_reading asking_both) 1 (names_left 0 1 ∷ []) (open_menu 1)
open_entry_fails =
    fails_here (entry_is_open asking_both.left_start (asking_entry ∷ []) asking_entry refl exact_asking refl (λ none. cc none))

pub open_pair_fails : LinesFail asking_both (first_reading asking_both) 1 (lists_pair 0 0 ∷ []) (open_menu 1)
open_pair_fails = fails_here (left_is_open asking_both.left_start asking_both.right_start refl refl asking_open)

-- ---- One event and two.

pub events_read : LinesAreRead one_and_two (first_reading one_and_two) 1
    (names_left 0 1 ∷ names_right 0 1 ∷ lists_pair 0 0 ∷ lists_pair 1 1 ∷ [])
    (record {
      lefts = one_and_two.left_start ∷ stop ∷ [];
      rights = one_and_two.right_start ∷ stop ∷ [];
      pairs = event_pairs;
    })
events_read =
    one_read (stop, names one_and_two.left _ 0 1 _ one_event act (gate_event 0 []) stop exact_event refl refl refl, refl)
    (one_read (stop, names one_and_two.right _ 0 1 _ two_events (left_side act) (gate_event 0 []) stop exact_events refl refl refl, refl)
    (one_read (
      one_and_two.left_start,
      one_and_two.right_start,
      record {
        left_named = refl;
        right_named = refl;
        left_closed = closed_menu one_and_two.left _ one_event exact_event (refl, tt);
        right_closed = closed_menu one_and_two.right _ two_events exact_events (refl, (refl, tt));
      },
      refl,
    )
    (one_read (
      stop,
      stop,
      record {
        left_named = refl;
        right_named = refl;
        left_closed = closed_stop _;
        right_closed = closed_stop _;
      },
      refl,
    ) all_read)))
