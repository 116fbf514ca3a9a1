-- The refusals of `session_histories` that those of the code stand for. Want of memory is none of them.
use Rattle.std.specs.Prelude.{◌≡◌, ◌<◌, ℕ, Option, None, Some}
use Rattle.session_lines.specs.HandedOn.{ReadFault}
use Rattle.session_lines.specs.HandedOn.read_faults as text_fault
use Rattle.sort_terms.specs.SortedView.{term_in}
use Rattle.session_lines.specs.declared.refusals.Refusal.{Refusal}
use Rattle.session_lines.specs.declared.refusals.Refusal.TheVariants as values_refusal
use Rattle.session_histories.specs.Refusal as plain
use Rattle.session_histories.specs.Replay.{LineRefusal, bad_line, step_refused, label_differs, state_differs, ReplayRefusal, in_line, other_specification}
use Rattle.session_log.specs.declared.refusals.StepRefusal.{StepRefusal}
use Rattle.session_log.specs.declared.refusals.StepRefusal.TheVariants as step
use Rattle.session_log.specs.declared.refusals.LineFault.{LineFault}
use Rattle.session_log.specs.declared.refusals.LineFault.TheVariants as line_fault
use Rattle.session_log.specs.declared.refusals.ReplayFault.{ReplayFault}
use Rattle.session_log.specs.declared.refusals.ReplayFault.TheVariants as replay
use Rattle.session_log.specs.declared.refusals.TraceFault.{TraceFault}
use Rattle.session_log.specs.declared.refusals.TraceFault.TheVariants as trace

-- why a step is refused
abbrev pub step_refusal_of : StepRefusal → Option plain.StepRefusal
step_refusal_of (step.NoEntry number length) = Some (plain.no_entry number length)
step_refusal_of (step.ValueCount wanted given) = Some (plain.value_count wanted given)
step_refusal_of (step.ValueSort variable) = Some (plain.value_sort variable)
step_refusal_of (step.Unmet left right) = Some (plain.unmet (term_in left) (term_in right))
step_refusal_of step.NoMemory = None

-- the refusal is the expected one, or memory was wanted
abbrev pub TellsStep : Option plain.StepRefusal → StepRefusal → Type 0
TellsStep expected (step.NoEntry number length) = expected ≡ Some (plain.no_entry number length)
TellsStep expected (step.ValueCount wanted given) = expected ≡ Some (plain.value_count wanted given)
TellsStep expected (step.ValueSort variable) = expected ≡ Some (plain.value_sort variable)
TellsStep expected (step.Unmet left right) = expected ≡ Some (plain.unmet (term_in left) (term_in right))
TellsStep expected step.NoMemory = Unit {0}

-- the refusal of a step as a fault of its line
abbrev pub line_fault_of : StepRefusal → LineFault
line_fault_of (step.NoEntry number length) = line_fault.Step (step.NoEntry number length)
line_fault_of (step.ValueCount wanted given) = line_fault.Step (step.ValueCount wanted given)
line_fault_of (step.ValueSort variable) = line_fault.Step (step.ValueSort variable)
line_fault_of (step.Unmet left right) = line_fault.Step (step.Unmet left right)
line_fault_of step.NoMemory = line_fault.NoMemory

-- so is a fault of the text of its terms, and one of the readings of its terms
abbrev pub line_fault_of_text : ReadFault → LineFault
line_fault_of_text text_fault.TooLong = line_fault.BadLine
line_fault_of_text (text_fault.BadByte place) = line_fault.BadLine
line_fault_of_text (text_fault.OpenComment place) = line_fault.BadLine
line_fault_of_text (text_fault.Syntax place) = line_fault.BadLine
line_fault_of_text (text_fault.TooDeep place) = line_fault.BadLine
line_fault_of_text text_fault.NoMemory = line_fault.NoMemory

abbrev pub line_fault_of_values : Refusal → LineFault
line_fault_of_values values_refusal.BadCommand = line_fault.BadLine
line_fault_of_values (values_refusal.BadTerm number) = line_fault.BadLine
line_fault_of_values values_refusal.NoMemory = line_fault.NoMemory

-- the step of a line is refused for a reason that the relation has
abbrev pub TellsStepOf : (LineRefusal → Type 0) → StepRefusal → Type 0
TellsStepOf Is refusal = (why : plain.StepRefusal) × (step_refusal_of refusal ≡ Some why) × Is (step_refused why)

-- the fault of a line is one that the relation has, or memory was wanted
abbrev pub TellsLine : (LineRefusal → Type 0) → LineFault → Type 0
TellsLine Is line_fault.BadLine = Is bad_line
TellsLine Is (line_fault.LabelDiffers kept found) = Is (label_differs kept.items found.items)
TellsLine Is (line_fault.StateDiffers kept found) = Is (state_differs kept.items found.items)
TellsLine Is (line_fault.Step refusal) = TellsStepOf Is refusal
TellsLine Is line_fault.NoMemory = Unit {0}

-- the fault of a line with its number
abbrev pub replay_fault_at : LineFault → ℕ → ReplayFault
replay_fault_at line_fault.BadLine line = replay.BadLine line
replay_fault_at (line_fault.LabelDiffers kept found) line = replay.LabelDiffers line kept found
replay_fault_at (line_fault.StateDiffers kept found) line = replay.StateDiffers line kept found
replay_fault_at (line_fault.Step refusal) line = replay.Step line refusal
replay_fault_at line_fault.NoMemory line = replay.NoMemory

-- the reason at this line is one that the relation has
abbrev pub At : (ReplayRefusal → Type 0) → ℕ → LineRefusal → Type 0
At Is line why = Is (in_line line why)

-- the fault of a trace is one that the relation has, or memory was wanted
abbrev pub TellsReplay : (ReplayRefusal → Type 0) → ReplayFault → Type 0
TellsReplay Is (replay.BadLine line) = At Is line bad_line
TellsReplay Is (replay.OtherSpecification kept) = Is (other_specification kept.items)
TellsReplay Is (replay.LabelDiffers line kept found) = At Is line (label_differs kept.items found.items)
TellsReplay Is (replay.StateDiffers line kept found) = At Is line (state_differs kept.items found.items)
TellsReplay Is (replay.Step line refusal) = TellsStepOf (At Is line) refusal
TellsReplay Is replay.NoMemory = Unit {0}

-- the refusal is that of the line with this number, for a reason that the relation has
abbrev pub IsInLine : ℕ → (LineRefusal → Type 0) → ReplayRefusal → Type 0
IsInLine number Is (in_line line why) = (line ≡ number) × Is why
IsInLine number Is (other_specification kept) = ⊥

-- a text of this length has more bytes than the limit, or memory was wanted
abbrev pub TellsLength : (limit length : ℕ) → TraceFault → Type 0
TellsLength limit length trace.TooLong = limit < length
TellsLength limit length trace.NoMemory = Unit {0}
