-- The trace of a session over a specification with the names of a text, replayed from its first situation, leads to that session.
use Rattle.std.specs.Prelude.{◌<◌, ◌≤◌, List}
use Rattle.lotos_base.specs.Term.{Term}
use Rattle.behaviour_semantics.specs.Behaviour.{Behaviour, Process}
use Rattle.behaviour_semantics.specs.WellFormed.{Every}
use Rattle.session_histories.specs.HandedOn.{node_limit}
use Rattle.session_laws.specs.TextNames.{IsWordSpelling, HasTextNames}
use Rattle.session_laws.specs.TermDepth.{term_depth}
use Rattle.session_histories.specs.Session.{SessionBasis, Item, Situation, PastStep, items_of}
use Rattle.session_histories.specs.Lawful.{IsSituation, LeadTo}
use Rattle.session_histories.specs.SessionLaws.{IsStateOver}
use Rattle.session_histories.specs.TraceLaws.{trace_of, plain_trace_of, LeadsBack}
use Rattle.session_histories.specs.BoundNames.{bound_names, names_in_bodies}

-- The names of the signature, of the specification with its gates and processes, and of the variables that its processes and this state
-- bind have the form that texts have, and infix operations have two arguments.
pub record HasNamesOfText (basis : SessionBasis) (first : Behaviour) : Type 0 where
  pub signature : HasTextNames basis.data_.signature
  pub gates : Every IsWordSpelling basis.specification.gate_names
  pub name : IsWordSpelling basis.specification.name
  pub processes : Every (λ (p : Process). IsWordSpelling p.name) basis.specification.processes
  pub bodies : Every IsWordSpelling (names_in_bodies basis.specification.processes)
  pub start : Every IsWordSpelling (bound_names first)

-- The number of the entry has at most ten digits, and the values are nested at most as deep as those that are read from a line.
pub record IsWithinLine (item : Item) : Type 0 where
  pub number : item.number < 10000000000
  pub values : Every (λ (t : Term). term_depth t ≤ node_limit) item.values

-- A lawful session from a closed state, whose trace has the limits of a text.
pub record HasTextTrace (basis : SessionBasis) (first last : Situation) (steps : List PastStep) : Type 0 where
  pub over : IsStateOver basis first.state
  pub start : IsSituation basis first
  pub lead : LeadTo basis first steps last
  pub names : HasNamesOfText basis first.state
  pub items : Every IsWithinLine (items_of steps)

-- The trace is replayed to that session: the same state, menu and steps. It comes to nothing else; and so it is with the trace of
-- format 1.
pub record TracesAreReplayed : Type 0 where
  pub stated :
      (basis : SessionBasis) (first last : Situation) (steps : List PastStep) →
      HasTextTrace basis first last steps →
      LeadsBack basis first last steps (trace_of basis last steps)
  pub plain :
      (basis : SessionBasis) (first last : Situation) (steps : List PastStep) →
      HasTextTrace basis first last steps →
      LeadsBack basis first last steps (plain_trace_of basis steps)
