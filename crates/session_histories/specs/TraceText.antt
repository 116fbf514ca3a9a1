-- The text of a trace. Format 2 is the line `lotos-trace 2 NAME` with the name of the specification, and for each step its line and
-- the line `at STATE` with the text of the state behind it. Format 1 is the line `lotos-trace 1` and the lines of the steps alone.
use Rattle.std.specs.Prelude.{ℕ, List, [], ◌∷◌, ◌++◌, codes, decimal}
use Rattle.lotos_base.specs.Signature.{Signature}
use Rattle.lotos_base.specs.Term.{Term}
use Rattle.behaviour_semantics.specs.Behaviour.{Behaviour, Specification}
use Rattle.printed_texts.specs.BehaviourText.{state_text}
pub use Rattle.printed_texts.specs.MenuText.{given_text}
use Rattle.printed_texts.specs.MenuText.{label_text}
use Rattle.session_histories.specs.Session.{Item, Situation, PastStep, Progress, first_of}

-- the first line of format 1
abbrev pub plain_heading : List ℕ
plain_heading = codes "lotos-trace 1"

-- the first line of format 2: the mark, and the name as it was declared
abbrev pub heading_mark : List ℕ
heading_mark = codes "lotos-trace 2 "

abbrev pub trace_heading : List ℕ → List ℕ
trace_heading name = heading_mark ++ name

-- what ends the values
abbrev pub arrow : List ℕ
arrow = codes " => "

-- the line of a step: `N t, t => LABEL`, or `N => LABEL`
abbrev pub step_text : Signature → List (List ℕ) → Item → List ℕ
step_text signature gates item =
    decimal item.number ++ given_text signature item.values ++ arrow ++ label_text signature gates item.label

-- a line with its line feed, and the lines of steps
abbrev pub ended : List ℕ → List ℕ
ended line = line ++ codes "\n"

abbrev pub steps_text : Signature → List (List ℕ) → List Item → List ℕ
steps_text signature gates [] = []
steps_text signature gates (item ∷ items) = ended (step_text signature gates item) ++ steps_text signature gates items

-- the line of a state: `at STATE`
abbrev pub state_mark : List ℕ
state_mark = codes "at "

abbrev pub line_of_state : Signature → Specification → Behaviour → List ℕ
line_of_state signature specification state = state_mark ++ state_text signature specification state

-- Steps that lead to a situation, each with the state behind it: the one in which the next step was taken, or the last one.
abbrev pub stated_steps : Signature → Specification → Situation → List PastStep → List ℕ
stated_steps signature specification last [] = []
stated_steps signature specification last (step ∷ steps) =
    ended (step_text signature specification.gate_names step.item)
    ++ (ended (line_of_state signature specification (first_of last steps).state) ++ stated_steps signature specification last steps)

-- the trace of a session, in format 2
abbrev pub trace_text : Signature → Specification → Progress → List ℕ
trace_text signature specification progress =
    ended (trace_heading specification.name) ++ stated_steps signature specification progress.situation progress.steps

-- the trace of these items, in format 1
abbrev pub plain_trace : Signature → List (List ℕ) → List Item → List ℕ
plain_trace signature gates items = ended plain_heading ++ steps_text signature gates items
