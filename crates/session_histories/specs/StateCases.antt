-- Worked cases: the first line of a trace, the lines of states, and what traces with them come to. The specification is `S`, with the
-- gates `g` and `h`.
use Rattle.std.specs.Prelude.{◌≡◌, ℕ, List, [], ◌∷◌, codes, None, Some}
use Rattle.behaviour_semantics.specs.Behaviour.{Behaviour, stop, action, give}
use Rattle.behaviour_semantics.specs.Label.{gate_event}
use Rattle.session_histories.specs.Session.{Situation, PastStep, Progress, opened_progress}
use Rattle.session_histories.specs.TraceText.{trace_text}
use Rattle.session_histories.specs.TraceLine.{no_heading, of_steps, of_states, trace_heading_of, kept_state}
use Rattle.session_histories.specs.Replay.{bad_line, state_differs, ReplayRefusal, in_line, other_specification, LinesOutcome, goes_on, stops, LineComesTo, ReplayIs}
use Rattle.lotos_base.specs.SmallData.{nought}
use Rattle.session_histories.specs.RefusalCases.{small_signature, small_specification, small_basis, small_menu, item}

-- The first line: the format, and in format 2 a name of at least one byte, whatever these are.
pub record HeadingsSay : Type 0 where
  pub plain : trace_heading_of (codes "lotos-trace 1") ≡ of_steps
  pub stated : trace_heading_of (codes "lotos-trace 2 Buffer") ≡ of_states (codes "Buffer")
  pub blanks : trace_heading_of (codes "lotos-trace 2  a b ") ≡ of_states (codes " a b ")
  pub no_name : trace_heading_of (codes "lotos-trace 2 ") ≡ no_heading
  pub no_blank : trace_heading_of (codes "lotos-trace 2") ≡ no_heading
  pub name_behind_one : trace_heading_of (codes "lotos-trace 1 S") ≡ no_heading
  pub other_format : trace_heading_of (codes "lotos-trace 3 S") ≡ no_heading
  pub capital : trace_heading_of (codes "Lotos-trace 1") ≡ no_heading
  pub plain_return : trace_heading_of (codes "lotos-trace 1\r") ≡ no_heading
  pub stated_return : trace_heading_of (codes "lotos-trace 2 S\r") ≡ no_heading
  pub nothing : trace_heading_of [] ≡ no_heading

-- A line of a state keeps what stands behind `at `, to the byte.
pub record StatesAreKept : Type 0 where
  pub state : kept_state (codes "at h !0; stop") ≡ Some (codes "h !0; stop")
  pub blanks : kept_state (codes "at  stop ") ≡ Some (codes " stop ")
  pub empty_state : kept_state (codes "at ") ≡ Some []
  pub no_blank : kept_state (codes "at") ≡ None
  pub blank_before : kept_state (codes " at stop") ≡ None
  pub capital : kept_state (codes "At stop") ≡ None
  pub step : kept_state (codes "1 0 => g !0") ≡ None
  pub carriage_return : kept_state (codes "at stop\r") ≡ None
  pub empty : kept_state [] ≡ None

-- `h !0; stop`
abbrev pub second_state : Behaviour
second_state = action 1 (give nought ∷ []) None stop

-- `g !0; h !0; stop`
abbrev pub first_state : Behaviour
first_state = action 0 (give nought ∷ []) None second_state

abbrev pub standing_in : Behaviour → Situation
standing_in state = record { state = state; menu = small_menu }

-- the step of the first gate, and that of the second
abbrev pub small_steps : List PastStep
small_steps =
    record { item = item 1 (nought ∷ []) (gate_event 0 (nought ∷ [])); before = standing_in first_state }
    ∷ record { item = item 1 [] (gate_event 1 (nought ∷ [])); before = standing_in second_state }
    ∷ []

-- Behind each step stands the state that it led to, not the one in which it was taken.
pub record TracesHaveStates : Type 0 where
  pub no_step :
      trace_text small_signature small_specification (opened_progress (standing_in first_state)) ≡ codes "lotos-trace 2 S\n"
  pub steps :
      trace_text small_signature small_specification (record { situation = standing_in stop; steps = small_steps })
      ≡ codes "lotos-trace 2 S\n1 0 => g !0\nat h !0; stop\n1 => h !0\nat stop\n"

-- What the text comes to in a session that begins in a situation.
abbrev pub ReplayOfTextComesTo : Situation → List ℕ → LinesOutcome ReplayRefusal → Type 0
ReplayOfTextComesTo first text outcome = ReplayIs small_basis first text outcome

-- the line `1 0 => g !0` leads to this session, which stands in `h !0; stop`
pub record LeadsOn (first : Situation) (next : Progress) : Type 0 where
  pub goes : LineComesTo small_basis (opened_progress first) (codes "1 0 => g !0") (goes_on next)
  pub state : next.situation.state ≡ second_state

-- What a trace comes to: first by its first line, then by each step with the state behind it. A line that is missing has the number
-- behind the last one.
pub record StatesAreCompared : Type 0 where
  pub nothing : (first : Situation) → ReplayOfTextComesTo first [] (stops (in_line 1 bad_line))
  pub other_name :
      (first : Situation) →
      ReplayOfTextComesTo first (codes "lotos-trace 2 Other\n") (stops (other_specification (codes "Other")))
  pub other_name_first :
      (first : Situation) →
      ReplayOfTextComesTo first (codes "lotos-trace 2 Other\nno step\n") (stops (other_specification (codes "Other")))
  pub letter_case : (first : Situation) → ReplayOfTextComesTo first (codes "lotos-trace 2 s\n") (goes_on (opened_progress first))
  pub no_line_feed : (first : Situation) → ReplayOfTextComesTo first (codes "lotos-trace 2 S") (goes_on (opened_progress first))
  pub no_step : (first : Situation) → ReplayOfTextComesTo first (codes "lotos-trace 2 S\nat stop\n") (stops (in_line 2 bad_line))
  pub other_state :
      (first : Situation) (next : Progress) →
      LeadsOn first next →
      ReplayOfTextComesTo first (codes "lotos-trace 2 S\n1 0 => g !0\nat stop\n")
      (stops (in_line 3 (state_differs (codes "stop") (codes "h !0; stop"))))
  pub missing_state :
      (first : Situation) (next : Progress) →
      LeadsOn first next →
      ReplayOfTextComesTo first (codes "lotos-trace 2 S\n1 0 => g !0\n") (stops (in_line 3 bad_line))
  pub step_for_state :
      (first : Situation) (next : Progress) →
      LeadsOn first next →
      ReplayOfTextComesTo first (codes "lotos-trace 2 S\n1 0 => g !0\n1 => h !0\n") (stops (in_line 3 bad_line))
  pub same_state :
      (first : Situation) (next : Progress) →
      LeadsOn first next →
      ReplayOfTextComesTo first (codes "lotos-trace 2 S\n1 0 => g !0\nat h !0; stop\n") (goes_on next)
  pub plain :
      (first : Situation) (next : Progress) →
      LeadsOn first next →
      ReplayOfTextComesTo first (codes "lotos-trace 1\n1 0 => g !0\n") (goes_on next)
  pub state_in_plain :
      (first : Situation) (next : Progress) →
      LeadsOn first next →
      ReplayOfTextComesTo first (codes "lotos-trace 1\n1 0 => g !0\nat h !0; stop\n") (stops (in_line 3 bad_line))
