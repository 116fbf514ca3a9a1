-- Entries without variables are matched exactly where their events have answers.
use Rattle.std.proofs.Common.{◌≡◌, ◌<◌, ℕ, zero, suc, List, [], ◌∷◌, Some, slice_get, refl, ap, sym, ◌∙◌, subst, arith}
use Rattle.lotos_base.specs.Term.{Term}
use Rattle.lotos_base.specs.Equation.{Data, HasSortedSides}
use Rattle.behaviour_semantics.specs.Behaviour.{Behaviour, Specification, stop}
use Rattle.behaviour_semantics.specs.Label.{Label}
use Rattle.behaviour_semantics.specs.Solving.{Entry}
use Rattle.behaviour_semantics.specs.Menu.{IsEntry, Exact}
use Rattle.behaviour_semantics.specs.WellFormed.{AreOver}
use Rattle.behaviour_semantics.proofs.OptionLemmas.{some_value}
use Rattle.certificate_theory.specs.Agreement.{IdenticalLabels}
use Rattle.certificate_theory.specs.AgreementLaws.{IsClosedEntryOf, ClosedEntriesAreEvents, ClosedLabelsAgreeWhereIdentical}
use Rattle.certificate_theory.specs.Certificate.{compared_side_of}
use Rattle.certificate_theory.specs.NamedStates.{IsClosedEntry, EntryLeads, numbered_entry}
use Rattle.certificate_theory.specs.MatchedPairs.{IsMatched, AreMatched, IsFirstUnmatched}
use Rattle.bisim_check.specs.Matching.{Event, AreEvents, HasAnswer, AllAnswered, IsFirstUnanswered}

-- A closed behaviour with its exact menu, whose entries have no variables, and the events of these.
pub record HasEvents (data_ : Data) (canon : Term → Term) (specification : Specification) (b : Behaviour) (menu : List Entry)
    (made : List Event) : Type 0 where
  pub over : AreOver data_ canon specification b
  pub exact : Exact data_ canon specification.processes b menu
  pub closed : (entry : Entry) → IsEntry menu entry → IsClosedEntry entry
  pub events : AreEvents (compared_side_of data_ canon specification) b menu made

-- The entry of an event, and the event of an entry.
record EventOf (data_ : Data) (canon : Term → Term) (specification : Specification) (b : Behaviour) (entry : Entry) (event : Event)
    : Type 0 where
  label : event.label ≡ entry.label
  leads : EntryLeads (compared_side_of data_ canon specification) b entry event.target

module _ (data_ : Data) (canon : Term → Term) (specification : Specification) (b : Behaviour) where
  event_at : (menu : List Entry) (events : List Event) → AreEvents (compared_side_of data_ canon specification) b menu events
      → (k : ℕ) (entry : Entry) → slice_get menu k ≡ Some entry
      → (event : Event) × (slice_get events k ≡ Some event) × EventOf data_ canon specification b entry event
  event_at (first ∷ menu) (event ∷ events) h zero entry e = (
    event,
    refl,
    record {
      label = h.0 ∙ ap (λ (it : Entry). it.label) (some_value e);
      leads = subst (λ (it : Entry). EntryLeads (compared_side_of data_ canon specification) b it event.target) (some_value e) h.1;
    },
  )
  event_at (first ∷ menu) (event ∷ events) h (suc k) entry e = event_at menu events h.2 k entry e
  event_at [] [] h k entry e = absurd (cc e)
  event_at [] (event ∷ events) h k entry e = absurd h
  event_at (first ∷ menu) [] h k entry e = absurd h

  entry_at : (menu : List Entry) (events : List Event) → AreEvents (compared_side_of data_ canon specification) b menu events
      → (k : ℕ) (event : Event) → slice_get events k ≡ Some event
      → (entry : Entry) × (slice_get menu k ≡ Some entry) × EventOf data_ canon specification b entry event
  entry_at (entry ∷ menu) (first ∷ events) h zero event e = (
    entry,
    refl,
    record {
      label = sym (ap (λ (it : Event). it.label) (some_value e)) ∙ h.0;
      leads = subst (λ (it : Event). EntryLeads (compared_side_of data_ canon specification) b entry it.target) (some_value e) h.1;
    },
  )
  entry_at (entry ∷ menu) (first ∷ events) h (suc k) event e = entry_at menu events h.2 k event e
  entry_at [] [] h k event e = absurd (cc e)
  entry_at [] (first ∷ events) h k event e = absurd h
  entry_at (entry ∷ menu) [] h k event e = absurd h

module _ (are_events : ClosedEntriesAreEvents) (agree_where : ClosedLabelsAgreeWhereIdentical) (data_ : Data) (canon : Term → Term)
    (sides : HasSortedSides data_) (one other : Specification) (Listed : Behaviour → Behaviour → Type 0) (b d : Behaviour)
    (menu answers : List Entry) (events other_events : List Event) (left : HasEvents data_ canon one b menu events)
    (right : HasEvents data_ canon other d answers other_events) where
  closed_left : (entry : Entry) → IsEntry menu entry → IsClosedEntryOf (compared_side_of data_ canon one) b entry
  closed_left entry there =
      record { over = left.over; menu = menu; exact = left.exact; there = there; closed = left.closed entry there }

  closed_right : (entry : Entry) → IsEntry answers entry → IsClosedEntryOf (compared_side_of data_ canon other) d entry
  closed_right entry there =
      record { over = right.over; menu = answers; exact = right.exact; there = there; closed = right.closed entry there }

  -- an entry whose event has an answer is matched
  answered : (entry : Entry) (event : Event) → IsEntry menu entry → EventOf data_ canon one b entry event
      → HasAnswer one other Listed other_events event
      → IsMatched (compared_side_of data_ canon one) (compared_side_of data_ canon other) Listed b d answers entry
  answered entry event there of_event has =
      let found : (answer : Entry) × (slice_get answers has.place ≡ Some answer) × EventOf data_ canon other d answer has.answer =
      entry_at data_ canon other d answers other_events right.events has.place has.answer has.there in
      let there_too : IsEntry answers found.0 = (has.place, found.1) in
      let identical : IdenticalLabels one other entry.label found.0.label =
      subst (λ (it : Label). IdenticalLabels one other it found.0.label) of_event.label
      (subst (IdenticalLabels one other event.label) found.2.label has.is.labels) in
      record {
        answer = found.0;
        there = there_too;
        agree = (agree_where (record { data_ = data_; canon = canon; left = one; right = other; left_start = stop; right_start = stop })
            b d entry found.0 sides (closed_left entry there) (closed_right found.0 there_too)).1 identical;
        target = event.target;
        leads = of_event.leads;
        other_target = has.answer.target;
        answer_leads = found.2.leads;
        listed = has.is.listed;
      }

  -- the event of an entry that is matched has an answer
  matched : (entry : Entry) (event : Event) → IsEntry menu entry → EventOf data_ canon one b entry event
      → IsMatched (compared_side_of data_ canon one) (compared_side_of data_ canon other) Listed b d answers entry
      → HasAnswer one other Listed other_events event
  matched entry event there of_event m =
      let found : (answer : Event) × (slice_get other_events m.there.0 ≡ Some answer) × EventOf data_ canon other d m.answer answer =
      event_at data_ canon other d answers other_events right.events m.there.0 m.answer m.there.1 in
      let identical : IdenticalLabels one other entry.label m.answer.label =
      (agree_where (record { data_ = data_; canon = canon; left = one; right = other; left_start = stop; right_start = stop })
      b d entry m.answer sides (closed_left entry there) (closed_right m.answer m.there)).0 m.agree in
      let here : m.target ≡ event.target =
      are_events.to_one (compared_side_of data_ canon one) b entry m.target event.target m.leads of_event.leads in
      let other_one : m.other_target ≡ found.0.target =
      are_events.to_one (compared_side_of data_ canon other) d m.answer m.other_target found.0.target m.answer_leads found.2.leads in
      record {
        place = m.there.0;
        answer = found.0;
        there = found.1;
        is = record {
          labels = subst (λ (it : Label). IdenticalLabels one other it found.0.label) (sym of_event.label)
              (subst (IdenticalLabels one other entry.label) (sym found.2.label) identical);
          listed = subst (λ (it : Behaviour). Listed it found.0.target) here (subst (Listed m.target) other_one m.listed);
        };
      }

  pub all_matched : AllAnswered one other Listed events other_events
      → AreMatched (compared_side_of data_ canon one) (compared_side_of data_ canon other) Listed b d
  all_matched all = record {
    menu = menu;
    exact = left.exact;
    other_menu = answers;
    other_exact = right.exact;
    matched = λ entry there.
        let found : (event : Event) × (slice_get events there.0 ≡ Some event) × EventOf data_ canon one b entry event =
        event_at data_ canon one b menu events left.events there.0 entry there.1 in
        answered entry found.0 there found.2 (all there.0 found.0 found.1);
  }

  pub first_unmatched : (number : ℕ) → IsFirstUnanswered one other Listed events other_events number
      → IsFirstUnmatched (compared_side_of data_ canon one) (compared_side_of data_ canon other) Listed b d number
  first_unmatched number first =
      let found : (entry : Entry) × (slice_get menu first.place ≡ Some entry) × EventOf data_ canon one b entry first.event =
      entry_at data_ canon one b menu events left.events first.place first.event first.there in
      record {
        menu = menu;
        exact = left.exact;
        other_menu = answers;
        other_exact = right.exact;
        entry = found.0;
        there = ap (numbered_entry menu) first.numbered ∙ found.1;
        unmatched = λ m. first.unanswered (matched found.0 first.event (first.place, found.1) found.2 m);
        earlier = λ k before below at. before_number k before (subst (λ (n : ℕ). k < n) first.numbered below) at;
      }
    where
      before_number : (k : ℕ) (before : Entry) → k < suc first.place → numbered_entry menu k ≡ Some before
          → IsMatched (compared_side_of data_ canon one) (compared_side_of data_ canon other) Listed b d answers before
      before_number zero before below at = absurd (cc at)
      before_number (suc k) before below at =
          let found : (event : Event) × (slice_get events k ≡ Some event) × EventOf data_ canon one b before event =
          event_at data_ canon one b menu events left.events k before at in
          answered before found.0 (k, at) found.2 (first.earlier k found.0 (omega (arith, below)) found.1)
