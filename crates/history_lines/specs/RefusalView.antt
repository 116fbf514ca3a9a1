-- The refusals that those of the code stand for, and the lines that are added for them.
use Rattle.std.specs.Prelude.{◌≡◌, ℕ, List, ◌++◌, Option, None, Some, IsSomeAnd}
use Rattle.lotos_base.specs.Signature.{Signature}
use Rattle.session_log.specs.HandedOn.{ReadFault, refused_for_text, question_refusal_of, ReplayRefusal, in_line, other_specification, bad_line}
use Rattle.session_log.specs.HandedOn.{step_refused, label_differs, state_differs}
use Rattle.session_log.specs.HandedOn.step_refusals as plain
use Rattle.session_log.specs.HandedOn.question_refusals as questions
use Rattle.session_log.specs.RefusalView.{step_refusal_of}
use Rattle.session_log.specs.declared.refusals.StepRefusal.{StepRefusal}
use Rattle.session_log.specs.declared.refusals.ReplayFault.{ReplayFault}
use Rattle.session_log.specs.declared.refusals.ReplayFault.TheVariants as replay
use Rattle.history_lines.specs.CommandRefusal.{CommandRefusal, ill_formed, no_step, command_refusal_text, step_refusal_text, replay_refusal_text, step_code}
use Rattle.history_lines.specs.declared.refusals.Decline.{Decline}
use Rattle.history_lines.specs.declared.refusals.Decline.TheVariants.{Terms, Step}

-- ---- Steps

-- why the line of a step is refused; want of memory is no reason
abbrev pub for_terms : Option questions.QuestionRefusal → Option CommandRefusal
for_terms None = None
for_terms (Some refusal) = Some (ill_formed refusal)

abbrev pub for_step : Option plain.StepRefusal → Option CommandRefusal
for_step None = None
for_step (Some refusal) = Some (no_step refusal)

abbrev pub decline_of : Decline → Option CommandRefusal
decline_of (Terms refusal) = for_terms (question_refusal_of refusal)
decline_of (Step refusal) = for_step (step_refusal_of refusal)

-- the refusal for a fault of a text
abbrev pub declined_for_text : ReadFault → Decline
declined_for_text fault = Terms (refused_for_text fault)

-- the line of a refusal is added; for want of memory none is
abbrev pub AddsLine : Signature → Option CommandRefusal → List ℕ → List ℕ → Type 0
AddsLine signature refusal before after = IsSomeAnd refusal (λ why. after ≡ before ++ command_refusal_text signature why)

abbrev pub AddsDecline : Signature → Decline → List ℕ → List ℕ → Type 0
AddsDecline signature decline before after = AddsLine signature (decline_of decline) before after

abbrev pub AddsStep : Signature → StepRefusal → List ℕ → List ℕ → Type 0
AddsStep signature refusal before after =
    IsSomeAnd (step_refusal_of refusal) (λ why. after ≡ before ++ step_refusal_text signature why)

-- ---- Replay

-- why a trace is refused
abbrev pub at_line : ℕ → Option plain.StepRefusal → Option ReplayRefusal
at_line line None = None
at_line line (Some refusal) = Some (in_line line (step_refused refusal))

abbrev pub replay_refusal_of : ReplayFault → Option ReplayRefusal
replay_refusal_of (replay.BadLine line) = Some (in_line line bad_line)
replay_refusal_of (replay.OtherSpecification kept) = Some (other_specification kept.items)
replay_refusal_of (replay.LabelDiffers line kept found) = Some (in_line line (label_differs kept.items found.items))
replay_refusal_of (replay.StateDiffers line kept found) = Some (in_line line (state_differs kept.items found.items))
replay_refusal_of (replay.Step line refusal) = at_line line (step_refusal_of refusal)
replay_refusal_of replay.NoMemory = None

abbrev pub AddsFault : (name : List ℕ) → ReplayFault → List ℕ → List ℕ → Type 0
AddsFault name fault before after = IsSomeAnd (replay_refusal_of fault) (λ refusal. after ≡ before ++ replay_refusal_text name refusal)

-- the number of the refusal of a step
abbrev pub number_for : Option plain.StepRefusal → Option (List ℕ)
number_for None = None
number_for (Some refusal) = Some (step_code refusal)

abbrev pub code_for : StepRefusal → Option (List ℕ)
code_for refusal = number_for (step_refusal_of refusal)
