-- The events that those of the code stand for.
use Rattle.std.specs.Prelude.{◌≡◌, ℕ, List, [], ◌∷◌, ◌++◌, Bool}
use Rattle.behaviour_semantics.specs.Solving.{Entry}
use Rattle.behaviour_tree.specs.MoveView.{label_of}
use Rattle.behaviour_tree.specs.StateView.{state_of}
use Rattle.certificate_theory.specs.Certificate.{ComparedSide, CertificateFault}
use Rattle.certificate_theory.specs.NamedStates.{EntryLeads}
use Rattle.behaviour_semantics.specs.Behaviour.{Behaviour, Specification}
use Rattle.bisim_check.specs.Faults.{unmatched_on}
use Rattle.bisim_check.specs.Matching as plain
use Rattle.bisim_check.specs.declared.events.Event.{Event}

abbrev pub event_of : Event → plain.Event
event_of event = record { label = label_of event.label; target = state_of event.target }

-- The event is that of the entry of a behaviour.
pub record IsEventOf (side : ComparedSide) (b : Behaviour) (entry : Entry) (event : plain.Event) : Type 0 where
  pub label : event.label ≡ entry.label
  pub leads : EntryLeads side b entry event.target

-- The later events are the earlier ones with that of the entry.
pub record HasNewEvent (side : ComparedSide) (b : Behaviour) (entry : Entry) (before after : List plain.Event) : Type 0 where
  pub event : plain.Event
  pub is : IsEventOf side b entry event
  pub added : after ≡ before ++ (event ∷ [])

-- The fault says which event is the first one that has no answer.
pub record IsUnanswered (one other : Specification) (Listed : Behaviour → Behaviour → Type 0) (right : Bool) (line : ℕ)
    (events answers : List plain.Event) (f : CertificateFault) : Type 0 where
  pub number : ℕ
  pub is : f ≡ unmatched_on right line number
  pub first : plain.IsFirstUnanswered one other Listed events answers number
