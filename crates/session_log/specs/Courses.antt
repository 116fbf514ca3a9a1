-- What steps and undo do to a course.
use Rattle.std.specs.Prelude.{◌≡◌, ℕ, ◌+◌, drop, List, [], ◌∷◌, ◌++◌, Bool, true, false}
use Rattle.behaviour_semantics.specs.WellFormed.{Every}
use Rattle.behaviour_tree.specs.Closed.{IsClosedNode}
use Rattle.behaviour_tree.specs.declared.states.State.{State}
use Rattle.behaviour_tree.specs.DefinitionView.{specification_of}
use Rattle.behaviour_tree.specs.declared.definitions.Spec.{Spec}
use Rattle.sort_terms.specs.SignatureView.{signature_of}
use Rattle.sort_terms.specs.declared.signatures.Signature.{Signature}
use Rattle.session_histories.specs.Session.{Progress, HasUndone}
use Rattle.session_histories.specs.TraceText.{trace_text}
use Rattle.session_log.specs.CourseView.{progress_of}
use Rattle.session_log.specs.declared.courses.Course.{Course}
use Rattle.session_log.specs.declared.courses.Past.{Past}

-- the state of the oldest step, or the present one
abbrev pub oldest_state : State → List Past → State
oldest_state state [] = state
oldest_state state (past ∷ history) = past.state

abbrev pub first_state_of : Course → State
first_state_of course = oldest_state course.state course.history.items

-- the state behind the step at this position
abbrev pub behind_state : Course → ℕ → State
behind_state course index = oldest_state course.state (drop (index + 1) course.history.items)

-- the trace of the course
abbrev pub written_trace : Signature → Spec → Course → List ℕ
written_trace signature spec course = trace_text (signature_of signature) (specification_of spec) (progress_of course)

-- the states of the course are closed
pub record AreClosedStates (course : Course) : Type 0 where
  pub state : IsClosedNode course.state.node
  pub history : Every (λ (past : Past). IsClosedNode past.state.node) course.history.items

-- The course has gone on to the state and the menu of the step, and has kept it with those that it had before.
pub record IsGoneOn (old : Course) (next : Past) (new : Course) : Type 0 where
  pub state : new.state ≡ next.state
  pub menu : new.menu ≡ next.menu
  pub history : new.history.items ≡ old.history.items ++ (record next { state = old.state; menu = old.menu } ∷ [])

-- Nothing has changed.
pub record IsSameCourse (old new : Course) : Type 0 where
  pub state : new.state ≡ old.state
  pub menu : new.menu ≡ old.menu
  pub history : new.history.items ≡ old.history.items

-- What undo does: it drops the last step, or there is none and nothing changes.
abbrev pub IsUndone : Bool → Progress → Progress → Type 0
IsUndone true old new = HasUndone old new
IsUndone false old new = (old.steps ≡ []) × (new ≡ old)
