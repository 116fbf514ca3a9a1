-- What a refused step tells: the first fault of its derivation.
use Rattle.std.specs.Prelude.{◌≡◌, ℕ, Option, None, Some, Result, Ok, Err, nat_lt, if◌then◌else◌}
use Rattle.behaviour_semantics.specs.Fault.{Fault, Wrong, not_fitting, bad_value, unmet}
use Rattle.sort_terms.specs.SortedView.{term_in}
use Rattle.step_parts.specs.declared.faults.StepFault.{StepFault}
use Rattle.step_parts.specs.declared.faults.StepFault.TheVariants as step_fault

-- the greatest number that is told
abbrev pub greatest_number : ℕ
greatest_number = 4294967295

-- the number as it is told
abbrev pub kept_number : ℕ → ℕ
kept_number n = if nat_lt greatest_number n then greatest_number else n

-- the refusal tells what is wrong at the node with this number
abbrev pub TellsWrong : ℕ → Wrong → StepFault → Type 0
TellsWrong number not_fitting (step_fault.NotFitting node) = node ≡ kept_number number
TellsWrong number (bad_value k) (step_fault.BadValue leaf) = leaf ≡ kept_number k
TellsWrong number (unmet t u) (step_fault.Unmet node left right) =
    (node ≡ kept_number number) × (term_in left ≡ t) × (term_in right ≡ u)
TellsWrong number _ _ = ⊥

abbrev pub TellsFault : Fault → StepFault → Type 0
TellsFault f fault = TellsWrong f.node f.wrong fault

-- Want of memory tells nothing.
abbrev pub UnlessMemory : (StepFault → Type 0) → StepFault → Type 0
UnlessMemory P step_fault.NoMemory = Unit {0}
UnlessMemory P (step_fault.NotFitting node) = P (step_fault.NotFitting node)
UnlessMemory P (step_fault.BadValue leaf) = P (step_fault.BadValue leaf)
UnlessMemory P (step_fault.Unmet node left right) = P (step_fault.Unmet node left right)

-- The refusal tells this, which is wrong.
pub record IsWrongTold (number : ℕ) (wrong : Option Wrong) (fault : StepFault) : Type 0 where
  pub what : Wrong
  pub is : wrong ≡ Some what
  pub told : TellsWrong number what fault

-- Nothing is wrong, or the refusal tells what is.
abbrev pub IsStepChecked : {T : Type 0} → ℕ → Option Wrong → Result T StepFault → Type 0
IsStepChecked number wrong (Ok x) = wrong ≡ None
IsStepChecked number wrong (Err fault) = UnlessMemory (IsWrongTold number wrong) fault
