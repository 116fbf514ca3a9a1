-- Pairs of states with their events.
use Rattle.std.proofs.Common.{◌≡◌, ◌<◌, ◌+◌, ℕ, zero, suc, List, [], ◌∷◌, ◌++◌, false, true, map, length, take, Some, slice_get, ap, sym, ◌∙◌, subst, add-one}
use Rattle.lotos_base.proofs.Members.{at_map, member_at}
use Rattle.lotos_base.specs.Canon.{IsCanon}
use Rattle.lotos_base.specs.Equation.{Data, HasSortedSides}
use Rattle.lotos_base.specs.Term.{Term}
use Rattle.behaviour_semantics.specs.Behaviour.{Behaviour}
use Rattle.behaviour_semantics.specs.Solving as solving
use Rattle.behaviour_semantics.specs.WellFormed.{Every}
use Rattle.behaviour_semantics.proofs.InstanceLemmas.{every_at}
use Rattle.behaviour_semantics.proofs.OptionLemmas.{some_value}
use Rattle.behaviour_tree.specs.DefinitionView.{specification_of}
use Rattle.behaviour_tree.specs.declared.definitions.Spec.{Spec}
use Rattle.certificate_theory.specs.AgreementLaws.{ClosedEntriesAreEvents, ClosedLabelsAgreeWhereIdentical}
use Rattle.certificate_theory.specs.Bisimulation.{turned_round}
use Rattle.certificate_theory.specs.Certificate.{CertificateFault, ListedPair, AreListed, ComparedSide}
use Rattle.certificate_theory.specs.MatchedPairs.{PairIsMatched, PairFails, left_fails, right_fails}
use Rattle.menu_builder.specs.HandedOn.{plain_entry, Entry, menu_entries}
use Rattle.menu_builder.specs.Menus.{entries_in}
use Rattle.bisim_check.specs.Events.{IsEventOf, HasNewEvent, IsUnanswered}
use Rattle.bisim_check.specs.Matching.{Event, AreEvents, ListedTowards, AllAnswered}
use Rattle.bisim_check.specs.Readings.{comparison_of, behaviour_at, pair_among, HasClosedEntries, HasClosedState, AreListedIn, IsKeptReading, IsPlacedPair, ArePlaced}
use Rattle.bisim_check.specs.Surveys.{IsSideOf, IsSurveyed, AreSurveyed, behaviour_in, side_over}
use Rattle.bisim_check.specs.declared.readings.Listed.{Listed}
use Rattle.bisim_check.specs.declared.readings.Reading.{Reading}
use Rattle.bisim_check.specs.declared.surveys.Surveyed.{Surveyed}
use Rattle.bisim_check.proofs.AnswerLemmas.{place_within}
use Rattle.bisim_check.proofs.MatchLemmas.{HasEvents, all_matched, first_unmatched}
use Rattle.bisim_check.proofs.ReadingLemmas.{at_state, closed_entries}
use Rattle.bisim_check.proofs.TargetLemmas.{surveyed_over}

-- ---- Events of a state

one_event_more : (side : ComparedSide) (b : Behaviour) (entries : List solving.Entry) (events : List Event) (entry : solving.Entry)
    (event : Event) → AreEvents side b entries events → IsEventOf side b entry event
    → AreEvents side b (entries ++ (entry ∷ [])) (events ++ (event ∷ []))
one_event_more side b [] [] entry event h it = (it.label, it.leads, tt)
one_event_more side b (e ∷ entries) (v ∷ events) entry event h it =
    (h.0, h.1, one_event_more side b entries events entry event h.2 it)
one_event_more side b [] (v ∷ events) entry event h it = absurd h
one_event_more side b (e ∷ entries) [] entry event h it = absurd h

take_at : {X : Type 0} (xs : List X) (i : ℕ) (x : X) → slice_get xs i ≡ Some x → take (suc i) xs ≡ take i xs ++ (x ∷ [])
take_at [] i x there = absurd (cc there)
take_at {X = X} (y ∷ xs) zero x there = ap (λ (it : X). it ∷ []) (some_value there)
take_at {X = X} (y ∷ xs) (suc i) x there = ap (λ (it : List X). y ∷ it) (take_at xs i x there)

pub events_more : (side : ComparedSide) (b : Behaviour) (entries : List Entry) (position : ℕ) (before after : List Event)
    → position < length entries
    → ((entry : Entry) → slice_get entries position ≡ Some entry → HasNewEvent side b (plain_entry entry) before after)
    → AreEvents side b (take position (map plain_entry entries)) before
    → AreEvents side b (take (position + 1) (map plain_entry entries)) after
events_more side b entries position before after within added so_far =
    let found : (entry : Entry) × (slice_get entries position ≡ Some entry) = member_at entries position within in
    let new : HasNewEvent side b (plain_entry found.0) before after = added found.0 found.1 in
    let longer : take (position + 1) (map plain_entry entries) ≡ take position (map plain_entry entries) ++ (plain_entry found.0 ∷ []) =
    ap (λ (n : ℕ). take n (map plain_entry entries)) (add-one position)
    ∙ take_at (map plain_entry entries) position (plain_entry found.0) (at_map plain_entry entries position found.0 found.1) in
    subst (λ (it : List solving.Entry). AreEvents side b it after) (sym longer)
    (subst (AreEvents side b (take position (map plain_entry entries) ++ (plain_entry found.0 ∷ []))) (sym new.added)
    (one_event_more side b (take position (map plain_entry entries)) before (plain_entry found.0) new.event so_far new.is))

-- ---- The states of a pair

pub within_states : (states : List Surveyed) (n : ℕ) → HasClosedState states n → n < length states
within_states states n h = place_within states n h.surveyed h.there

pub closed_at : (states : List Surveyed) (n : ℕ) (x : Surveyed) (h : HasClosedState states n) → slice_get states n ≡ Some x
    → HasClosedEntries x.menu
closed_at states n x h there = subst (λ (it : Surveyed). HasClosedEntries it.menu) (some_value (sym h.there ∙ there)) h.closed

pub surveyed_at : (data_ : Data) (canon : Term → Term) (spec : Spec) (states : List Surveyed) (n : ℕ) (x : Surveyed)
    → AreSurveyed data_ canon spec states → slice_get states n ≡ Some x → IsSurveyed data_ canon spec x
surveyed_at data_ canon spec states n x all there = every_at (IsSurveyed data_ canon spec) states n x all there

-- all pairs have their states
placed_all : (reading : Reading) (pairs : List Listed) → AreListedIn reading.lefts.items reading.rights.items pairs
    → Every (IsPlacedPair reading) pairs
placed_all reading [] h = tt
placed_all reading (p ∷ pairs) h = (
  record {
    left = place_within reading.lefts.items p.left h.0.left.surveyed h.0.left.there;
    right = place_within reading.rights.items p.right h.0.right.surveyed h.0.right.there;
  },
  placed_all reading pairs h.1,
)

pub all_placed : (data_ : Data) (canon : Term → Term) (left right : Spec) (reading : Reading) → IsKeptReading data_ canon left right reading
    → ArePlaced reading
all_placed data_ canon left right reading kept = placed_all reading reading.pairs.items kept.pairs

-- ---- A pair with the events of its states

pub record IsEventful (data_ : Data) (canon : Term → Term) (spec : Spec) (surveyed : Surveyed) (events : List Event) : Type 0 where
  pub side : IsSideOf data_.signature spec
  pub surveyed_ : IsSurveyed data_ canon spec surveyed
  pub closed : HasClosedEntries surveyed.menu
  pub events_ : AreEvents (side_over data_ canon spec) (behaviour_in surveyed) (entries_in surveyed.menu) events

has_events : (data_ : Data) (canon : Term → Term) (spec : Spec) (surveyed : Surveyed) (events : List Event) → IsCanon data_ canon
    → IsEventful data_ canon spec surveyed events
    → HasEvents data_ canon (specification_of spec) (behaviour_in surveyed) (entries_in surveyed.menu) events
has_events data_ canon spec surveyed events is_canon h = record {
  over = surveyed_over data_ canon spec surveyed h.side is_canon h.surveyed_;
  exact = h.surveyed_.exact;
  closed = closed_entries (menu_entries surveyed.menu) h.closed;
  events = h.events_;
}

module _ (are_events : ClosedEntriesAreEvents) (agree_where : ClosedLabelsAgreeWhereIdentical) (data_ : Data) (canon : Term → Term)
    (is_canon : IsCanon data_ canon) (sides : HasSortedSides data_) (left right : Spec) (b c : Behaviour) (reading : Reading)
    (listed : Listed) (pairs : List ListedPair) (one other : Surveyed)
    (here : slice_get reading.lefts.items listed.left ≡ Some one) (there : slice_get reading.rights.items listed.right ≡ Some other)
    (moves answers : List Event) (h : IsEventful data_ canon left one moves) (k : IsEventful data_ canon right other answers) where
  same_pair : ◌≡◌ {A = ListedPair} (record { line = listed.line; left = behaviour_in one; right = behaviour_in other })
      (pair_among reading.lefts.items reading.rights.items listed)
  same_pair =
      let p : behaviour_in one ≡ behaviour_at reading.lefts.items listed.left =
      sym (at_state reading.lefts.items listed.left one here) in
      let q : behaviour_in other ≡ behaviour_at reading.rights.items listed.right =
      sym (at_state reading.rights.items listed.right other there) in
      (λ i. record { line = listed.line; left = p i; right = q i })

  pub pair_matched : AllAnswered (specification_of left) (specification_of right) (ListedTowards false pairs) moves answers
      → AllAnswered (specification_of right) (specification_of left) (ListedTowards true pairs) answers moves
      → PairIsMatched (comparison_of data_ canon left right b c) pairs (pair_among reading.lefts.items reading.rights.items listed)
  pair_matched forth back =
      subst (PairIsMatched (comparison_of data_ canon left right b c) pairs) same_pair (record {
        left = all_matched are_events agree_where data_ canon sides (specification_of left) (specification_of right) (AreListed pairs)
            (behaviour_in one) (behaviour_in other) (entries_in one.menu) (entries_in other.menu) moves answers
            (has_events data_ canon left one moves is_canon h) (has_events data_ canon right other answers is_canon k) forth;
        right = all_matched are_events agree_where data_ canon sides (specification_of right) (specification_of left)
            (turned_round (AreListed pairs)) (behaviour_in other) (behaviour_in one) (entries_in other.menu) (entries_in one.menu)
            answers moves (has_events data_ canon right other answers is_canon k) (has_events data_ canon left one moves is_canon h)
            back;
      })

  pub pair_fails_left : (f : CertificateFault)
      → IsUnanswered (specification_of left) (specification_of right) (ListedTowards false pairs) false listed.line moves answers f
      → PairFails (comparison_of data_ canon left right b c) pairs (pair_among reading.lefts.items reading.rights.items listed) f
  pair_fails_left f it =
      subst (λ (pair : ListedPair). PairFails (comparison_of data_ canon left right b c) pairs pair f) same_pair
      (left_fails it.number (first_unmatched are_events agree_where data_ canon sides (specification_of left) (specification_of right)
      (AreListed pairs) (behaviour_in one) (behaviour_in other) (entries_in one.menu) (entries_in other.menu) moves answers
      (has_events data_ canon left one moves is_canon h) (has_events data_ canon right other answers is_canon k) it.number it.first) it.is)

  pub pair_fails_right : AllAnswered (specification_of left) (specification_of right) (ListedTowards false pairs) moves answers
      → (f : CertificateFault)
      → IsUnanswered (specification_of right) (specification_of left) (ListedTowards true pairs) true listed.line answers moves f
      → PairFails (comparison_of data_ canon left right b c) pairs (pair_among reading.lefts.items reading.rights.items listed) f
  pair_fails_right forth f it =
      subst (λ (pair : ListedPair). PairFails (comparison_of data_ canon left right b c) pairs pair f) same_pair
      (right_fails it.number
      (all_matched are_events agree_where data_ canon sides (specification_of left) (specification_of right) (AreListed pairs)
      (behaviour_in one) (behaviour_in other) (entries_in one.menu) (entries_in other.menu) moves answers
      (has_events data_ canon left one moves is_canon h) (has_events data_ canon right other answers is_canon k) forth)
      (first_unmatched are_events agree_where data_ canon sides (specification_of right) (specification_of left)
      (turned_round (AreListed pairs)) (behaviour_in other) (behaviour_in one) (entries_in other.menu) (entries_in one.menu) answers
      moves (has_events data_ canon right other answers is_canon k) (has_events data_ canon left one moves is_canon h) it.number
      it.first) it.is)
