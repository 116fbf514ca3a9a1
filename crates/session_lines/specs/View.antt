-- The refusals that those of the code stand for.
use Rattle.std.specs.Prelude.{◌≡◌, ℕ, List, ◌++◌, Option, None, Some}
use Rattle.lotos_grammar.specs.HandedOn.{ReadFault}
use Rattle.lotos_grammar.specs.HandedOn.read_faults as fault
use Rattle.sort_terms.specs.declared.sort_faults.SortFault.{SortFault}
use Rattle.sort_terms.specs.declared.sort_faults.SortFault.TheVariants as sort_fault
use Rattle.session_lines.specs.Refusal as plain_refusal
use Rattle.session_lines.specs.Answer.{QuestionOutcome, refuses}
use Rattle.session_lines.specs.declared.refusals.Refusal.{Refusal}
use Rattle.session_lines.specs.declared.refusals.Refusal.TheVariants.{BadCommand, BadTerm, NoMemory}

-- a refusal; want of memory is none
abbrev pub question_refusal_of : Refusal → Option plain_refusal.QuestionRefusal
question_refusal_of BadCommand = Some plain_refusal.bad_command
question_refusal_of (BadTerm number) = Some (plain_refusal.bad_term number)
question_refusal_of NoMemory = None

-- the refusal for a fault of a text, and for the fault of a term
abbrev pub refused_for_text : ReadFault → Refusal
refused_for_text (fault.BadByte place) = BadTerm 101
refused_for_text (fault.OpenComment place) = BadTerm 102
refused_for_text fault.TooLong = BadTerm 103
refused_for_text (fault.Syntax place) = BadTerm 104
refused_for_text (fault.TooDeep place) = BadTerm 105
refused_for_text fault.NoMemory = NoMemory

abbrev pub refused_for_term : SortFault → Refusal
refused_for_term (sort_fault.UnknownSort place) = BadTerm 205
refused_for_term (sort_fault.UnknownName place) = BadTerm 211
refused_for_term (sort_fault.NoReading place) = BadTerm 212
refused_for_term (sort_fault.TwoReadings place) = BadTerm 213
refused_for_term sort_fault.NoMemory = NoMemory

-- a question comes to the refusal; or memory was wanted
abbrev pub RefusesWith : {A : Type 0} → (QuestionOutcome A → Type 0) → Refusal → Type 0
RefusesWith Is BadCommand = Is (refuses plain_refusal.bad_command)
RefusesWith Is (BadTerm number) = Is (refuses (plain_refusal.bad_term number))
RefusesWith Is NoMemory = Unit {0}

-- the line of a refusal was added
abbrev pub AddsRefusal : Refusal → List ℕ → List ℕ → Type 0
AddsRefusal BadCommand before after = after ≡ before ++ plain_refusal.question_refusal_text plain_refusal.bad_command
AddsRefusal (BadTerm number) before after = after ≡ before ++ plain_refusal.question_refusal_text (plain_refusal.bad_term number)
AddsRefusal NoMemory before after = ⊥

-- what a question comes to, and that its text was added
abbrev pub AddsOutcome : {A : Type 0} → (QuestionOutcome A → Type 0) → (QuestionOutcome A → List ℕ) → List ℕ → List ℕ → Type 0
AddsOutcome {A} Is text before after = (outcome : QuestionOutcome A) × Is outcome × (after ≡ before ++ text outcome)
