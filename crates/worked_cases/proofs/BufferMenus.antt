-- The menus and the steps of two one-place buffers side by side and of a two-place buffer.
use Rattle.std.proofs.Common.{ℕ, List, [], ◌∷◌, refl}
use Rattle.behaviour_semantics.specs.Label.{gate_event}
use Rattle.behaviour_semantics.specs.Shape.{Shape, act, left_side, right_side, called, relabelled}
use Rattle.behaviour_semantics.specs.Solving.{Entry, settled}
use Rattle.worked_cases.specs.BisimulationCases.{one_place, empty_buffer, full_buffer, side_by_side_with, two_buffers, two_places, place_of_places, two_place_buffer}
use Rattle.worked_cases.specs.Showing.{FittingShape, event_line}
use Rattle.worked_cases.proofs.ShownMenus.{menu}
use Rattle.worked_cases.proofs.CertificateTests.{plain_entry, ExactMenu}

-- Two events at gates.
abbrev two_lines : Shape → ℕ → Shape → ℕ → List FittingShape
two_lines first g second h = event_line first (gate_event g []) ∷ event_line second (gate_event h []) ∷ []

abbrev pub two_entries : Shape → ℕ → Shape → ℕ → List Entry
two_entries first g second h = plain_entry first (gate_event g []) ∷ plain_entry second (gate_event h []) ∷ []

abbrev pub one_entry : Shape → ℕ → List Entry
one_entry shape g = plain_entry shape (gate_event g []) ∷ []

-- The entries of the two buffers.
abbrev pub none_full : List Entry
none_full = two_entries (left_side (called act)) 0 (right_side (called act)) 0

abbrev pub left_full : List Entry
left_full = two_entries (left_side (relabelled act)) 1 (right_side (called act)) 0

abbrev pub right_full : List Entry
right_full = two_entries (left_side (called act)) 0 (right_side (relabelled act)) 1

abbrev pub both_full : List Entry
both_full = two_entries (left_side (relabelled act)) 1 (right_side (relabelled act)) 1

pub exact_none_full : ExactMenu two_buffers (side_by_side_with empty_buffer empty_buffer) none_full
exact_none_full =
    (menu one_place (side_by_side_with empty_buffer empty_buffer) 9 (two_lines (left_side (called act)) 0 (right_side (called act)) 0)
    refl refl refl (settled _ refl refl, (settled _ refl refl, tt))).exact

pub exact_left_full : ExactMenu two_buffers (side_by_side_with full_buffer empty_buffer) left_full
exact_left_full =
    (menu one_place (side_by_side_with full_buffer empty_buffer) 9
    (two_lines (left_side (relabelled act)) 1 (right_side (called act)) 0)
    refl refl refl (settled _ refl refl, (settled _ refl refl, tt))).exact

pub exact_right_full : ExactMenu two_buffers (side_by_side_with empty_buffer full_buffer) right_full
exact_right_full =
    (menu one_place (side_by_side_with empty_buffer full_buffer) 9
    (two_lines (left_side (called act)) 0 (right_side (relabelled act)) 1)
    refl refl refl (settled _ refl refl, (settled _ refl refl, tt))).exact

pub exact_both_full : ExactMenu two_buffers (side_by_side_with full_buffer full_buffer) both_full
exact_both_full =
    (menu one_place (side_by_side_with full_buffer full_buffer) 9
    (two_lines (left_side (relabelled act)) 1 (right_side (relabelled act)) 1)
    refl refl refl (settled _ refl refl, (settled _ refl refl, tt))).exact

-- The entries of the two-place buffer.
abbrev pub holding_none : List Entry
holding_none = one_entry (called act) 1

abbrev pub holding_one : List Entry
holding_one = two_entries (called (left_side act)) 1 (called (right_side act)) 0

abbrev pub holding_two : List Entry
holding_two = one_entry (called act) 0

pub exact_holding_none : ExactMenu two_place_buffer (place_of_places 0) holding_none
exact_holding_none =
    (menu two_places (place_of_places 0) 9 (event_line (called act) (gate_event 1 []) ∷ []) refl refl refl
    (settled _ refl refl, tt)).exact

pub exact_holding_one : ExactMenu two_place_buffer (place_of_places 1) holding_one
exact_holding_one =
    (menu two_places (place_of_places 1) 9 (two_lines (called (left_side act)) 1 (called (right_side act)) 0) refl refl refl
    (settled _ refl refl, (settled _ refl refl, tt))).exact

pub exact_holding_two : ExactMenu two_place_buffer (place_of_places 2) holding_two
exact_holding_two =
    (menu two_places (place_of_places 2) 9 (event_line (called act) (gate_event 0 []) ∷ []) refl refl refl
    (settled _ refl refl, tt)).exact
