-- When the entries of one state are matched by those of another state, said of events: labels with the behaviours that they
-- lead to. An entry without variables is one event.
use Rattle.std.specs.Prelude.{◌≡◌, ◌<◌, ℕ, suc, List, [], ◌∷◌, Bool, true, false, Some, slice_get}
use Rattle.behaviour_semantics.specs.Behaviour.{Behaviour, Specification}
use Rattle.behaviour_semantics.specs.Label.{Label}
use Rattle.behaviour_semantics.specs.Solving.{Entry}
use Rattle.certificate_theory.specs.Agreement.{IdenticalLabels}
use Rattle.certificate_theory.specs.Bisimulation.{turned_round}
use Rattle.certificate_theory.specs.Certificate.{ComparedSide, ListedPair, AreListed}
use Rattle.certificate_theory.specs.NamedStates.{EntryLeads}

-- A label with the behaviour that it leads to.
pub record Event : Type 0 where
  pub label : Label
  pub target : Behaviour

-- The events are those of the entries of a behaviour, one by one.
abbrev pub AreEvents : ComparedSide → Behaviour → List Entry → List Event → Type 0
AreEvents side b [] [] = Unit {0}
AreEvents side b (entry ∷ entries) (event ∷ events) =
    (event.label ≡ entry.label) × EntryLeads side b entry event.target × AreEvents side b entries events
AreEvents side b _ _ = ⊥

-- The two behaviours are listed as they stand, or the other way round.
abbrev pub ListedTowards : Bool → List ListedPair → Behaviour → Behaviour → Type 0
ListedTowards false pairs = AreListed pairs
ListedTowards true pairs = turned_round (AreListed pairs)

module _ (one other : Specification) (Listed : Behaviour → Behaviour → Type 0) where
  -- The labels of the two events are identical, and their targets are listed.
  pub record IsAnswer (event answer : Event) : Type 0 where
    pub labels : IdenticalLabels one other event.label answer.label
    pub listed : Listed event.target answer.target

  -- One of the events answers.
  pub record HasAnswer (answers : List Event) (event : Event) : Type 0 where
    pub place : ℕ
    pub answer : Event
    pub there : slice_get answers place ≡ Some answer
    pub is : IsAnswer event answer

  -- Each event has an answer.
  abbrev pub AllAnswered : List Event → List Event → Type 0
  AllAnswered events answers = (place : ℕ) (event : Event) → slice_get events place ≡ Some event → HasAnswer answers event

  -- The event with this number, from 1, has no answer, and each event before it has one.
  pub record IsFirstUnanswered (events answers : List Event) (number : ℕ) : Type 0 where
    pub place : ℕ
    pub numbered : number ≡ suc place
    pub event : Event
    pub there : slice_get events place ≡ Some event
    pub unanswered : HasAnswer answers event → ⊥
    pub earlier : (k : ℕ) (before : Event) → k < place → slice_get events k ≡ Some before → HasAnswer answers before
