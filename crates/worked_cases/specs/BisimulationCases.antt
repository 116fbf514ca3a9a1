-- Worked cases on certificates of bisimulation: two one-place buffers side by side and a two-place buffer, with gates that are
-- numbered in another order and spelled in other letters on the two sides; and values that are written in another way.
use Rattle.std.specs.Prelude.{ℕ, List, [], ◌∷◌, codes, None}
use Rattle.lotos_base.specs.Term.{Term, variable}
use Rattle.behaviour_semantics.specs.Behaviour.{Behaviour, stop, choice, choose_value, parallel, call, relabel, no_gates, give, Process, Specification}
use Rattle.behaviour_semantics.specs.Alike.{Alike}
use Rattle.certificate_theory.specs.SameSorts.{SameSorts}
use Rattle.certificate_theory.specs.BisimulationLaws.{IsComparable}
use Rattle.certificate_theory.specs.Certificate.{CertificateLine, names_left, names_right, lists_pair, accepted, Comparison}
use Rattle.certificate_theory.specs.Checking.{CertificateComesTo}
use Rattle.certificate_theory.specs.CertificateLaws.{AreShownBisimilar}
use Rattle.lotos_base.specs.SmallData.{nought}
use Rattle.worked_cases.specs.BehaviourSamples.{sample_signature, sample_data, sample_canon, empty_sort, one, gate_g, offering, event}
use Rattle.worked_cases.specs.ValueCases.{sum}

-- A specification with these gates, of which the first two are its own, these processes and this body.
abbrev pub specification_of_cases : List (List ℕ) → List Process → Behaviour → Specification
specification_of_cases gate_names processes body = record {
  name = codes "S";
  gate_names = gate_names;
  gates = 0 ∷ 1 ∷ [];
  parameters = [];
  exit = None;
  body = body;
  processes = processes;
}

-- The gates that processes bind: x and y.
abbrev pub gate_x : ℕ
gate_x = 2

abbrev pub gate_y : ℕ
gate_y = 3

-- A process that binds x and y, without values.
abbrev pub process_of_two_gates : List ℕ → Behaviour → Process
process_of_two_gates name body = record { name = name; gates = gate_x ∷ gate_y ∷ []; parameters = []; exit = None; body = body }

abbrev pub calling : ℕ → ℕ → ℕ → Behaviour
calling process first second = call process (first ∷ second ∷ []) []

-- `process B[x, y] := x; y; B[x, y]`, called with the gates 0 and 1: an empty buffer, and one that is full
abbrev pub one_place : List Process
one_place = process_of_two_gates (codes "B") (event gate_x (event gate_y (calling 0 gate_x gate_y))) ∷ []

abbrev pub empty_buffer : Behaviour
empty_buffer = calling 0 0 1

abbrev pub full_buffer : Behaviour
full_buffer = relabel ((gate_x, 0) ∷ (gate_y, 1) ∷ []) (event gate_y (calling 0 gate_x gate_y))

-- Two of them side by side, which share no gate.
abbrev pub side_by_side_with : Behaviour → Behaviour → Behaviour
side_by_side_with b c = parallel no_gates b c

abbrev pub two_buffers : Specification
two_buffers =
    specification_of_cases (codes "in" ∷ codes "out" ∷ codes "x" ∷ codes "y" ∷ []) one_place (side_by_side_with empty_buffer empty_buffer)

-- `process Empty[x, y] := x; Half[x, y]`, `process Half[x, y] := x; Full[x, y] [] y; Empty[x, y]` and
-- `process Full[x, y] := y; Half[x, y]`, called with the gates 1 and 0
abbrev pub two_places : List Process
two_places =
    process_of_two_gates (codes "Empty") (event gate_x (calling 1 gate_x gate_y))
    ∷ process_of_two_gates (codes "Half") (choice (event gate_x (calling 2 gate_x gate_y)) (event gate_y (calling 0 gate_x gate_y)))
    ∷ process_of_two_gates (codes "Full") (event gate_y (calling 1 gate_x gate_y))
    ∷ []

abbrev pub place_of_places : ℕ → Behaviour
place_of_places held = calling held 1 0

abbrev pub two_place_buffer : Specification
two_place_buffer =
    specification_of_cases (codes "OUT" ∷ codes "In" ∷ codes "x" ∷ codes "y" ∷ []) two_places (place_of_places 0)

abbrev pub buffers : Comparison
buffers = record {
  data_ = sample_data;
  canon = sample_canon;
  left = two_buffers;
  right = two_place_buffer;
  left_start = side_by_side_with empty_buffer empty_buffer;
  right_start = place_of_places 0;
}

-- `l 0 1`, `l 0 2`, `l 1 2`, `r 0 1`, `r 1 1`, `p 0 0`, `p 1 1`, `p 2 1`, `p 3 2`: either buffer of the two may be the full one
abbrev pub buffer_lines : List CertificateLine
buffer_lines =
    names_left 0 1 ∷ names_left 0 2 ∷ names_left 1 2 ∷ names_right 0 1 ∷ names_right 1 1
    ∷ lists_pair 0 0 ∷ lists_pair 1 1 ∷ lists_pair 2 1 ∷ lists_pair 3 2 ∷ []

-- Two one-place buffers side by side are strongly bisimilar with a two-place buffer.
pub record TwoBuffersAreATwoPlaceBuffer : Type 0 where
  pub comparable : IsComparable buffers
  pub accepted_with_four : CertificateComesTo buffers buffer_lines (accepted 4)
  pub bisimilar : AreShownBisimilar buffers buffer_lines 4

-- `a !(Succ(0) + 0); stop` and `a !Succ(0); stop`
abbrev pub offering_specification : Behaviour → Specification
offering_specification b = specification_of_cases (codes "a" ∷ codes "b" ∷ []) [] b

abbrev pub sums : Comparison
sums = record {
  data_ = sample_data;
  canon = sample_canon;
  left = offering_specification (offering 0 (give sum ∷ []) stop);
  right = offering_specification (offering 0 (give one ∷ []) stop);
  left_start = offering 0 (give sum ∷ []) stop;
  right_start = offering 0 (give one ∷ []) stop;
}

-- Values agree where the equations say so, however they are written: `l 0 1`, `r 0 1`, `p 0 0`, `p 1 1`.
pub record ValuesAgreeByTheEquations : Type 0 where
  pub accepted_with_two :
      CertificateComesTo sums (names_left 0 1 ∷ names_right 0 1 ∷ lists_pair 0 0 ∷ lists_pair 1 1 ∷ []) (accepted 2)

-- `choice x:Empty [] g !t; stop`, where the sort has no terms
abbrev pub over_nothing_giving : Term → Behaviour
over_nothing_giving t = choose_value (record { name = codes "x"; number = 0; sort = empty_sort }) (offering gate_g (give t ∷ []) stop)

-- Below a variable of a sort that has no values, terms are alike whatever their sorts are, and two that are alike a third one
-- need not be alike: so 'alike' is asked with sorts, and is chained.
pub record AlikeSaysNothingOfSorts : Type 0 where
  pub a_variable_and_nought : Alike sample_data (over_nothing_giving (variable 0 empty_sort)) (over_nothing_giving nought)
  pub a_variable_and_one : Alike sample_data (over_nothing_giving (variable 0 empty_sort)) (over_nothing_giving one)
  pub not_nought_and_one : Alike sample_data (over_nothing_giving nought) (over_nothing_giving one) → ⊥
  pub not_of_one_sort :
      SameSorts sample_signature (over_nothing_giving (variable 0 empty_sort)) (over_nothing_giving nought) → ⊥
