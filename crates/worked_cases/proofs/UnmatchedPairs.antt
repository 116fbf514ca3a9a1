-- Pairs whose entries are not all matched, and lines that do not list the starts.
use Rattle.std.proofs.Common.{◌≡◌, ◌<◌, ℕ, zero, suc, List, [], ◌∷◌, Some, codes, refl, ap, sym, ◌∙◌, subst, arith}
use Rattle.lotos_base.specs.Names.{folded}
use Rattle.behaviour_semantics.specs.Behaviour.{Behaviour, stop}
use Rattle.behaviour_semantics.specs.Label.{gate_event}
use Rattle.behaviour_semantics.specs.Shape.{act, left_side, right_side, called}
use Rattle.behaviour_semantics.specs.Solving.{Entry}
use Rattle.behaviour_semantics.specs.TransitionLaws.{MovesAreDetermined}
use Rattle.behaviour_semantics.specs.WellFormed.{Every}
use Rattle.behaviour_semantics.proofs.InstanceLemmas.{every_at}
use Rattle.behaviour_semantics.proofs.OptionLemmas.{some_value}
use Rattle.certificate_theory.specs.Agreement.{AreOneGate, AgreeingLabels}
use Rattle.certificate_theory.specs.Bisimulation.{turned_round}
use Rattle.certificate_theory.specs.Certificate.{CertificateLine, names_left, names_right, lists_pair, unmatched_left, unmatched_right, ListedPair, AreListed, ListsTheStarts, compared_side_of}
use Rattle.certificate_theory.specs.NamedStates.{numbered_entry, EntryLeads}
use Rattle.certificate_theory.specs.MatchedPairs.{IsMatched, PairsFail, left_fails, right_fails}
use Rattle.worked_cases.specs.BehaviourSamples.{sample_data, sample_canon}
use Rattle.worked_cases.specs.BisimulationCases.{empty_buffer, full_buffer, place_of_places, two_buffers, two_place_buffer, buffers}
use Rattle.worked_cases.specs.CertificateCases.{one_and_two}
use Rattle.worked_cases.proofs.CertificateTests.{plain_entry, matches, all_match, listed_at, no_match, not_listed, leads_to}
use Rattle.worked_cases.proofs.BufferMenus.{none_full, holding_none, exact_none_full, exact_holding_none}
use Rattle.worked_cases.proofs.BufferPairs.{state_of, pair_of}
use Rattle.worked_cases.proofs.OfferPairs.{same_gate, one_event, two_events, exact_event, exact_events}

-- ---- Lines that do not list the starts.

pub lists_no_starts : (lines : List CertificateLine) → Every (λ (l : CertificateLine). l ≡ lists_pair 0 0 → ⊥) lines
    → ListsTheStarts lines → ⊥
lists_no_starts lines none starts =
    every_at (λ (l : CertificateLine). l ≡ lists_pair 0 0 → ⊥) lines starts.0 (lists_pair 0 0) none starts.1 refl

abbrev right_number : CertificateLine → ℕ
right_number (names_left from number) = 0
right_number (names_right from number) = 0
right_number (lists_pair i j) = j

pub not_zero : (i j : ℕ) → 0 < j → lists_pair i j ≡ lists_pair 0 0 → ⊥
not_zero i j more same = let zero_is : j ≡ 0 = ap right_number same in omega (arith, more, zero_is)

-- ---- Targets that are not listed.

abbrev pub start_pairs : List ListedPair
start_pairs = pair_of 1 (state_of empty_buffer empty_buffer) (place_of_places 0) ∷ []

abbrev pub first_in : Entry
first_in = plain_entry (left_side (called act)) (gate_event 0 [])

abbrev pub StartMatch : Entry → Type 0
StartMatch entry =
    IsMatched (compared_side_of sample_data sample_canon two_buffers) (compared_side_of sample_data sample_canon two_place_buffer)
    (AreListed start_pairs)
    (state_of empty_buffer empty_buffer)
    (place_of_places 0) holding_none entry

not_by_in : MovesAreDetermined → (m : StartMatch first_in) → m.answer ≡ plain_entry (called act) (gate_event 1 []) → ⊥
not_by_in determined m same =
    let target : m.target ≡ state_of full_buffer empty_buffer =
    leads_to determined two_buffers (state_of empty_buffer empty_buffer) (left_side (called act)) (gate_event 0 [])
    (state_of full_buffer empty_buffer) m.target refl m.leads in
    let led : EntryLeads (compared_side_of sample_data sample_canon two_place_buffer) (place_of_places 0)
    (plain_entry (called act) (gate_event 1 []))
    m.other_target =
    subst (λ (e : Entry). EntryLeads (compared_side_of sample_data sample_canon two_place_buffer) (place_of_places 0) e m.other_target) same
    m.answer_leads in
    let other : m.other_target ≡ place_of_places 1 =
    leads_to determined two_place_buffer (place_of_places 0) (called act) (gate_event 1 []) (place_of_places 1) m.other_target refl led in
    let listed : AreListed start_pairs (state_of full_buffer empty_buffer) (place_of_places 1) =
    subst (λ (b : Behaviour). AreListed start_pairs b (place_of_places 1)) target
    (subst (λ (c : Behaviour). AreListed start_pairs m.target c) other m.listed) in
    not_listed start_pairs (state_of full_buffer empty_buffer) (place_of_places 1) ((λ l r. cc), tt) listed

-- Before entry 1 there is none.
before_the_first : (menu : List Entry) (k : ℕ) (before : Entry) → k < 1 → numbered_entry menu k ≡ Some before → ⊥
before_the_first menu zero before less at = cc at
before_the_first menu (suc k) before less at = omega (arith, less)

pub starts_alone_fail : MovesAreDetermined → PairsFail buffers start_pairs (unmatched_left 1 1)
starts_alone_fail determined = record {
  place = 0;
  pair = pair_of 1 (state_of empty_buffer empty_buffer) (place_of_places 0);
  there = refl;
  fails = left_fails 1 (record {
    menu = none_full;
    exact = exact_none_full;
    other_menu = holding_none;
    other_exact = exact_holding_none;
    entry = first_in;
    there = refl;
    unmatched = no_match two_buffers two_place_buffer (AreListed start_pairs) (state_of empty_buffer empty_buffer) (place_of_places 0)
        holding_none first_in (not_by_in determined, tt);
    earlier = λ k before less at. absurd (before_the_first none_full k before less at);
  }) refl;
  earlier = λ k before less at. absurd (omega (arith, less));
}

-- ---- An event that nothing answers.

abbrev pub event_pairs : List ListedPair
event_pairs = pair_of 3 one_and_two.left_start one_and_two.right_start ∷ pair_of 4 stop stop ∷ []

abbrev Listed : Behaviour → Behaviour → Type 0
Listed = AreListed event_pairs

stops_listed : AreListed event_pairs stop stop
stops_listed = listed_at event_pairs 1 (pair_of 4 stop stop) refl

abbrev EventMatch : Entry → Type 0
EventMatch entry =
    IsMatched (compared_side_of sample_data sample_canon one_and_two.right) (compared_side_of sample_data sample_canon one_and_two.left)
    (turned_round Listed) one_and_two.right_start
    one_and_two.left_start one_event entry

first_matched : EventMatch (plain_entry (left_side act) (gate_event 0 []))
first_matched =
    matches one_and_two.right one_and_two.left (turned_round Listed) one_and_two.right_start one_and_two.left_start one_event 0
    (left_side act) act (gate_event 0 []) (gate_event 0 []) stop stop refl (same_gate _ _, tt) refl refl stops_listed

abbrev first_of : List ℕ → ℕ
first_of [] = 0
first_of (x ∷ xs) = x

-- `b` is not `a`.
not_one_gate : AreOneGate one_and_two.right one_and_two.left 1 0 → ⊥
not_one_gate gate =
    let name : codes "b" ≡ gate.name = some_value gate.named in
    let other : codes "a" ≡ gate.other_name = some_value gate.other_named in
    let same : folded (codes "b") ≡ folded (codes "a") = ap folded name ∙ gate.same ∙ ap folded (sym other) in
    let numbers : 98 ≡ 97 = ap first_of same in
    omega (arith, numbers)

not_by_the_event : (m : EventMatch (plain_entry (right_side act) (gate_event 1 []))) → m.answer ≡ plain_entry act (gate_event 0 []) → ⊥
not_by_the_event m same =
    let agree : AgreeingLabels sample_data one_and_two.right one_and_two.left (gate_event 1 []) (gate_event 0 []) =
    subst (λ (e : Entry). AgreeingLabels sample_data one_and_two.right one_and_two.left (gate_event 1 []) e.label) same m.agree in
    not_one_gate agree.0

before_the_second : (k : ℕ) (before : Entry) → k < 2 → numbered_entry two_events k ≡ Some before → EventMatch before
before_the_second zero before less at = absurd (cc at)
before_the_second (suc zero) before less at = subst EventMatch (some_value at) first_matched
before_the_second (suc (suc k)) before less at = absurd (omega (arith, less))

pub events_fail : PairsFail one_and_two event_pairs (unmatched_right 3 2)
events_fail = record {
  place = 0;
  pair = pair_of 3 one_and_two.left_start one_and_two.right_start;
  there = refl;
  fails = right_fails 2
      (all_match one_and_two.left one_and_two.right Listed one_and_two.left_start one_and_two.right_start one_event two_events
      exact_event exact_events (
        matches one_and_two.left one_and_two.right Listed one_and_two.left_start one_and_two.right_start two_events 0 act (left_side act)
            (gate_event 0 []) (gate_event 0 []) stop stop refl (same_gate _ _, tt) refl refl stops_listed,
        tt,
      ))
      (record {
        menu = two_events;
        exact = exact_events;
        other_menu = one_event;
        other_exact = exact_event;
        entry = plain_entry (right_side act) (gate_event 1 []);
        there = refl;
        unmatched = no_match one_and_two.right one_and_two.left (turned_round Listed) one_and_two.right_start one_and_two.left_start
            one_event (plain_entry (right_side act) (gate_event 1 [])) (not_by_the_event, tt);
        earlier = before_the_second;
      }) refl;
  earlier = λ k before less at. absurd (omega (arith, less));
}
