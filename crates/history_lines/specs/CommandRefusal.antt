-- Why a line of a session is refused, and the line that is printed for it: `refused`, a number, a word for the cause, and what
-- is to be told of it.
use Rattle.std.specs.Prelude.{ℕ, List, ◌++◌, codes, decimal}
use Rattle.lotos_base.specs.Signature.{Signature}
use Rattle.session_log.specs.HandedOn.{entry_term_text, QuestionRefusal, question_refusal_text, StepRefusal, no_entry, value_count, value_sort}
use Rattle.session_log.specs.HandedOn.{unmet, LineRefusal, bad_line, step_refused, label_differs, state_differs, ReplayRefusal, in_line}
use Rattle.session_log.specs.HandedOn.{other_specification}

-- The line has no form, or its terms are refused; its step is refused; the shelf does not give the text with a name, or does
-- not take it; the text with a name is too long; or the text that is replayed in a session of the specification with a name is
-- refused.
pub data CommandRefusal : Type 0 where
  ill_formed : QuestionRefusal → CommandRefusal
  no_step : StepRefusal → CommandRefusal
  unread unwritten trace_too_long : (name : List ℕ) → CommandRefusal
  no_replay : (name : List ℕ) → ReplayRefusal → CommandRefusal

-- the line of a step that is refused: how many entries there are; how many values are wanted, and how many are given; the normal
-- forms of the sides of a condition that does not hold
abbrev pub step_refusal_text : Signature → StepRefusal → List ℕ
step_refusal_text signature (no_entry number count) =
    codes "refused 802 NoEntry " ++ decimal number ++ codes " of " ++ decimal count ++ codes "\n"
step_refusal_text signature (value_count wanted given) =
    codes "refused 803 ValueCount wanted " ++ decimal wanted ++ codes " given " ++ decimal given ++ codes "\n"
step_refusal_text signature (value_sort variable) = codes "refused 805 ValueSort\n"
step_refusal_text signature (unmet left right) =
    codes "refused 806 Unmet " ++ entry_term_text signature left ++ codes " is not " ++ entry_term_text signature right ++ codes "\n"

-- the number of its refusal
abbrev pub step_code : StepRefusal → List ℕ
step_code (no_entry number count) = codes "802"
step_code (value_count wanted given) = codes "803"
step_code (value_sort variable) = codes "805"
step_code (unmet left right) = codes "806"

-- the line of a trace of which a line is refused: this has another form; it keeps another label, or another state, than is found; or
-- its step is refused
abbrev pub line_refusal_text : (line : ℕ) → LineRefusal → List ℕ
line_refusal_text line bad_line = codes "refused 810 BadLine line " ++ decimal line ++ codes "\n"
line_refusal_text line (label_differs kept found) =
    codes "refused 811 LabelDiffers line " ++ decimal line ++ codes " kept " ++ kept ++ codes " found " ++ found ++ codes "\n"
line_refusal_text line (state_differs kept found) =
    codes "refused 814 StateDiffers line " ++ decimal line ++ codes " kept " ++ kept ++ codes " found " ++ found ++ codes "\n"
line_refusal_text line (step_refused refusal) =
    codes "refused 812 Step line " ++ decimal line ++ codes " " ++ step_code refusal ++ codes "\n"

-- the line of a trace that is refused in a session of the specification with this name: for one of its lines, or for the name that it
-- keeps
abbrev pub replay_refusal_text : (name : List ℕ) → ReplayRefusal → List ℕ
replay_refusal_text name (in_line line why) = line_refusal_text line why
replay_refusal_text name (other_specification kept) =
    codes "refused 813 OtherSpecification kept " ++ kept ++ codes " found " ++ name ++ codes "\n"

-- the line of a refusal
abbrev pub command_refusal_text : Signature → CommandRefusal → List ℕ
command_refusal_text signature (ill_formed refusal) = question_refusal_text refusal
command_refusal_text signature (no_step refusal) = step_refusal_text signature refusal
command_refusal_text signature (unread name) = codes "refused 807 Unread " ++ name ++ codes "\n"
command_refusal_text signature (unwritten name) = codes "refused 808 Unwritten " ++ name ++ codes "\n"
command_refusal_text signature (trace_too_long name) = codes "refused 809 TraceTooLong " ++ name ++ codes "\n"
command_refusal_text signature (no_replay name refusal) = replay_refusal_text name refusal
