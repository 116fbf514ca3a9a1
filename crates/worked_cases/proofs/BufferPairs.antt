-- The pairs of the buffers' certificate are matched, entry by entry.
use Rattle.std.proofs.Common.{◌≡◌, ℕ, List, [], ◌∷◌, Some, slice_get, refl}
use Rattle.behaviour_semantics.specs.Behaviour.{Behaviour}
use Rattle.behaviour_semantics.specs.Label.{gate_event}
use Rattle.behaviour_semantics.specs.Shape.{act, left_side, right_side, called, relabelled}
use Rattle.certificate_theory.specs.Agreement.{AreOneGate}
use Rattle.certificate_theory.specs.Bisimulation.{turned_round}
use Rattle.certificate_theory.specs.Certificate.{Reading, ListedPair, first_reading, AreListed, compared_side_of}
use Rattle.certificate_theory.specs.NamedStates.{LinesAreRead, all_read, one_read, ListsStates, HasClosedMenu}
use Rattle.certificate_theory.specs.MatchedPairs.{PairIsMatched, AllPairsAreMatched}
use Rattle.worked_cases.specs.BehaviourSamples.{sample_data, sample_canon}
use Rattle.worked_cases.specs.BisimulationCases.{empty_buffer, full_buffer, side_by_side_with, two_buffers, place_of_places, two_place_buffer, buffers, buffer_lines}
use Rattle.worked_cases.proofs.CertificateTests.{names, closed_menu, matches, all_match, all_pairs, listed_at}
use Rattle.worked_cases.proofs.BufferMenus.{none_full, left_full, right_full, both_full, exact_none_full, exact_left_full, exact_right_full, exact_both_full, holding_none, holding_one, holding_two, exact_holding_none, exact_holding_one, exact_holding_two}

-- `in` and `out` on the two sides.
pub ins : AreOneGate two_buffers two_place_buffer 0 1
ins = record { name = _; other_name = _; named = refl; other_named = refl; same = refl }

pub outs : AreOneGate two_buffers two_place_buffer 1 0
outs = record { name = _; other_name = _; named = refl; other_named = refl; same = refl }

ins_back : AreOneGate two_place_buffer two_buffers 1 0
ins_back = record { name = _; other_name = _; named = refl; other_named = refl; same = refl }

outs_back : AreOneGate two_place_buffer two_buffers 0 1
outs_back = record { name = _; other_name = _; named = refl; other_named = refl; same = refl }

abbrev pub state_of : Behaviour → Behaviour → Behaviour
state_of b c = side_by_side_with b c

-- The closed menus of all states.
pub closed_none_full : HasClosedMenu (compared_side_of sample_data sample_canon two_buffers) (state_of empty_buffer empty_buffer)
closed_none_full = closed_menu two_buffers _ none_full exact_none_full (refl, (refl, tt))

closed_left_full : HasClosedMenu (compared_side_of sample_data sample_canon two_buffers) (state_of full_buffer empty_buffer)
closed_left_full = closed_menu two_buffers _ left_full exact_left_full (refl, (refl, tt))

closed_right_full : HasClosedMenu (compared_side_of sample_data sample_canon two_buffers) (state_of empty_buffer full_buffer)
closed_right_full = closed_menu two_buffers _ right_full exact_right_full (refl, (refl, tt))

closed_both_full : HasClosedMenu (compared_side_of sample_data sample_canon two_buffers) (state_of full_buffer full_buffer)
closed_both_full = closed_menu two_buffers _ both_full exact_both_full (refl, (refl, tt))

pub closed_none : HasClosedMenu (compared_side_of sample_data sample_canon two_place_buffer) (place_of_places 0)
closed_none = closed_menu two_place_buffer _ holding_none exact_holding_none (refl, tt)

pub closed_one : HasClosedMenu (compared_side_of sample_data sample_canon two_place_buffer) (place_of_places 1)
closed_one = closed_menu two_place_buffer _ holding_one exact_holding_one (refl, (refl, tt))

closed_two : HasClosedMenu (compared_side_of sample_data sample_canon two_place_buffer) (place_of_places 2)
closed_two = closed_menu two_place_buffer _ holding_two exact_holding_two (refl, tt)

abbrev pub pair_of : ℕ → Behaviour → Behaviour → ListedPair
pair_of line left right = record { line = line; left = left; right = right }

abbrev pub buffer_pairs : List ListedPair
buffer_pairs =
    pair_of 6 (state_of empty_buffer empty_buffer) (place_of_places 0)
    ∷ pair_of 7 (state_of full_buffer empty_buffer) (place_of_places 1)
    ∷ pair_of 8 (state_of empty_buffer full_buffer) (place_of_places 1)
    ∷ pair_of 9 (state_of full_buffer full_buffer) (place_of_places 2)
    ∷ []

abbrev pub buffer_reading : Reading
buffer_reading = record {
  lefts = state_of empty_buffer empty_buffer ∷ state_of full_buffer empty_buffer ∷ state_of empty_buffer full_buffer
      ∷ state_of full_buffer full_buffer ∷ [];
  rights = place_of_places 0 ∷ place_of_places 1 ∷ place_of_places 2 ∷ [];
  pairs = buffer_pairs;
}

-- What is listed, and the same seen from the right.
abbrev Listed : Behaviour → Behaviour → Type 0
Listed = AreListed buffer_pairs

abbrev Turned : Behaviour → Behaviour → Type 0
Turned = turned_round (AreListed buffer_pairs)

start_pair : Listed (state_of empty_buffer empty_buffer) (place_of_places 0)
start_pair = listed_at buffer_pairs 0 (pair_of 6 (state_of empty_buffer empty_buffer) (place_of_places 0)) refl

left_pair : Listed (state_of full_buffer empty_buffer) (place_of_places 1)
left_pair = listed_at buffer_pairs 1 (pair_of 7 (state_of full_buffer empty_buffer) (place_of_places 1)) refl

right_pair : Listed (state_of empty_buffer full_buffer) (place_of_places 1)
right_pair = listed_at buffer_pairs 2 (pair_of 8 (state_of empty_buffer full_buffer) (place_of_places 1)) refl

full_pair : Listed (state_of full_buffer full_buffer) (place_of_places 2)
full_pair = listed_at buffer_pairs 3 (pair_of 9 (state_of full_buffer full_buffer) (place_of_places 2)) refl

-- ---- The four pairs, from the left and from the right.

first_matched : PairIsMatched buffers buffer_pairs (pair_of 6 (state_of empty_buffer empty_buffer) (place_of_places 0))
first_matched = record {
  left = all_match two_buffers two_place_buffer Listed _ _ none_full holding_none exact_none_full exact_holding_none (
    matches two_buffers two_place_buffer Listed _ _ holding_none 0 (left_side (called act)) (called act) (gate_event 0 []) (gate_event 1 [])
        _ _ refl (ins, tt) refl refl left_pair,
    (
      matches two_buffers two_place_buffer Listed _ _ holding_none 0 (right_side (called act)) (called act) (gate_event 0 [])
          (gate_event 1 []) _ _ refl (ins, tt) refl refl right_pair,
      tt,
    ),
  );
  right = all_match two_place_buffer two_buffers Turned _ _ holding_none none_full exact_holding_none exact_none_full (
    matches two_place_buffer two_buffers Turned _ _ none_full 0 (called act) (left_side (called act)) (gate_event 1 []) (gate_event 0 [])
        _ _ refl (ins_back, tt) refl refl left_pair,
    tt,
  );
}

second_matched : PairIsMatched buffers buffer_pairs (pair_of 7 (state_of full_buffer empty_buffer) (place_of_places 1))
second_matched = record {
  left = all_match two_buffers two_place_buffer Listed _ _ left_full holding_one exact_left_full exact_holding_one (
    matches two_buffers two_place_buffer Listed _ _ holding_one 1 (left_side (relabelled act)) (called (right_side act)) (gate_event 1 [])
        (gate_event 0 []) _ _ refl (outs, tt) refl refl start_pair,
    (
      matches two_buffers two_place_buffer Listed _ _ holding_one 0 (right_side (called act)) (called (left_side act)) (gate_event 0 [])
          (gate_event 1 []) _ _ refl (ins, tt) refl refl full_pair,
      tt,
    ),
  );
  right = all_match two_place_buffer two_buffers Turned _ _ holding_one left_full exact_holding_one exact_left_full (
    matches two_place_buffer two_buffers Turned _ _ left_full 1 (called (left_side act)) (right_side (called act)) (gate_event 1 [])
        (gate_event 0 []) _ _ refl (ins_back, tt) refl refl full_pair,
    (
      matches two_place_buffer two_buffers Turned _ _ left_full 0 (called (right_side act)) (left_side (relabelled act)) (gate_event 0 [])
          (gate_event 1 []) _ _ refl (outs_back, tt) refl refl start_pair,
      tt,
    ),
  );
}

third_matched : PairIsMatched buffers buffer_pairs (pair_of 8 (state_of empty_buffer full_buffer) (place_of_places 1))
third_matched = record {
  left = all_match two_buffers two_place_buffer Listed _ _ right_full holding_one exact_right_full exact_holding_one (
    matches two_buffers two_place_buffer Listed _ _ holding_one 0 (left_side (called act)) (called (left_side act)) (gate_event 0 [])
        (gate_event 1 []) _ _ refl (ins, tt) refl refl full_pair,
    (
      matches two_buffers two_place_buffer Listed _ _ holding_one 1 (right_side (relabelled act)) (called (right_side act))
          (gate_event 1 []) (gate_event 0 []) _ _ refl (outs, tt) refl refl start_pair,
      tt,
    ),
  );
  right = all_match two_place_buffer two_buffers Turned _ _ holding_one right_full exact_holding_one exact_right_full (
    matches two_place_buffer two_buffers Turned _ _ right_full 0 (called (left_side act)) (left_side (called act)) (gate_event 1 [])
        (gate_event 0 []) _ _ refl (ins_back, tt) refl refl full_pair,
    (
      matches two_place_buffer two_buffers Turned _ _ right_full 1 (called (right_side act)) (right_side (relabelled act)) (gate_event 0 [])
          (gate_event 1 []) _ _ refl (outs_back, tt) refl refl start_pair,
      tt,
    ),
  );
}

fourth_matched : PairIsMatched buffers buffer_pairs (pair_of 9 (state_of full_buffer full_buffer) (place_of_places 2))
fourth_matched = record {
  left = all_match two_buffers two_place_buffer Listed _ _ both_full holding_two exact_both_full exact_holding_two (
    matches two_buffers two_place_buffer Listed _ _ holding_two 0 (left_side (relabelled act)) (called act) (gate_event 1 [])
        (gate_event 0 []) _ _ refl (outs, tt) refl refl right_pair,
    (
      matches two_buffers two_place_buffer Listed _ _ holding_two 0 (right_side (relabelled act)) (called act) (gate_event 1 [])
          (gate_event 0 []) _ _ refl (outs, tt) refl refl left_pair,
      tt,
    ),
  );
  right = all_match two_place_buffer two_buffers Turned _ _ holding_two both_full exact_holding_two exact_both_full (
    matches two_place_buffer two_buffers Turned _ _ both_full 0 (called act) (left_side (relabelled act)) (gate_event 0 [])
        (gate_event 1 []) _ _ refl (outs_back, tt) refl refl right_pair,
    tt,
  );
}

pub buffers_matched : AllPairsAreMatched buffers buffer_pairs
buffers_matched = all_pairs buffers buffer_pairs (first_matched, (second_matched, (third_matched, (fourth_matched, tt))))

-- ---- The lines.

both_states : (r : Reading) (i j : ℕ) (left right : Behaviour) → slice_get r.lefts i ≡ Some left
    → slice_get r.rights j ≡ Some right → HasClosedMenu (compared_side_of sample_data sample_canon two_buffers) left
    → HasClosedMenu (compared_side_of sample_data sample_canon two_place_buffer) right → ListsStates buffers r i j left right
both_states r i j left right named named' closed closed' =
    record { left_named = named; right_named = named'; left_closed = closed; right_closed = closed' }

pub buffers_read : LinesAreRead buffers (first_reading buffers) 1 buffer_lines buffer_reading
buffers_read =
    one_read (
      state_of full_buffer empty_buffer,
      names two_buffers _ 0 1 _ none_full (left_side (called act)) (gate_event 0 []) _ exact_none_full refl refl refl,
      refl,
    )
    (one_read (
      state_of empty_buffer full_buffer,
      names two_buffers _ 0 2 _ none_full (right_side (called act)) (gate_event 0 []) _ exact_none_full refl refl refl,
      refl,
    )
    (one_read (
      state_of full_buffer full_buffer,
      names two_buffers _ 1 2 _ left_full (right_side (called act)) (gate_event 0 []) _ exact_left_full refl refl refl,
      refl,
    )
    (one_read (
      place_of_places 1,
      names two_place_buffer _ 0 1 _ holding_none (called act) (gate_event 1 []) _ exact_holding_none refl refl refl,
      refl,
    )
    (one_read (
      place_of_places 2,
      names two_place_buffer _ 1 1 _ holding_one (called (left_side act)) (gate_event 1 []) _ exact_holding_one refl refl refl,
      refl,
    )
    (one_read (_, _, both_states _ 0 0 _ _ refl refl closed_none_full closed_none, refl)
    (one_read (_, _, both_states _ 1 1 _ _ refl refl closed_left_full closed_one, refl)
    (one_read (_, _, both_states _ 2 1 _ _ refl refl closed_right_full closed_one, refl)
    (one_read (_, _, both_states _ 3 2 _ _ refl refl closed_both_full closed_two, refl) all_read))))))))
