-- What refusals tell, and checks one after another.
use Rattle.std.proofs.Common.{◌≡◌, ℕ, Option, Some, Result, Ok, Err, sym, subst}
use Rattle.std.specs.Prelude.{IfOk}
use Rattle.std.specs.Result.{IsErrAnd}
use Rattle.behaviour_semantics.specs.Fault.{Wrong}
use Rattle.step_parts.specs.StepFaults.{IsStepChecked, IsWrongTold, TellsWrong, UnlessMemory}
use Rattle.step_parts.specs.declared.faults.StepFault.{StepFault}
use Rattle.step_parts.specs.declared.faults.StepFault.TheVariants as step_fault

-- what a refusal tells, where it is not want of memory
pub unless_more : (P Q : StepFault → Type 0) → ((fault : StepFault) → P fault → Q fault) → (fault : StepFault) → UnlessMemory P fault
    → UnlessMemory Q fault
unless_more P Q f step_fault.NoMemory h = tt
unless_more P Q f (step_fault.NotFitting node) h = f (step_fault.NotFitting node) h
unless_more P Q f (step_fault.BadValue leaf) h = f (step_fault.BadValue leaf) h
unless_more P Q f (step_fault.Unmet node left right) h = f (step_fault.Unmet node left right) h

-- a refusal that tells what it is about tells it, unless it is want of memory
pub unless_told : (P : StepFault → Type 0) (fault : StepFault) → P fault → UnlessMemory P fault
unless_told P step_fault.NoMemory h = tt
unless_told P (step_fault.NotFitting node) h = h
unless_told P (step_fault.BadValue leaf) h = h
unless_told P (step_fault.Unmet node left right) h = h

pub no_memory : (P : StepFault → Type 0) (fault : StepFault) → fault ≡ step_fault.NoMemory → UnlessMemory P fault
no_memory P step_fault.NoMemory e = tt
no_memory P (step_fault.NotFitting node) e = absurd (cc e)
no_memory P (step_fault.BadValue leaf) e = absurd (cc e)
no_memory P (step_fault.Unmet node left right) e = absurd (cc e)

-- the same is wrong in another place
pub told_more : (number : ℕ) (one other : Option Wrong) → ((w : Wrong) → one ≡ Some w → other ≡ Some w) → (fault : StepFault)
    → UnlessMemory (IsWrongTold number one) fault → UnlessMemory (IsWrongTold number other) fault
told_more number one other f =
    unless_more (IsWrongTold number one) (IsWrongTold number other)
    (λ fault h. record { what = h.what; is = f h.what h.is; told = h.told })

-- a refusal of one wrong
pub tells : (number : ℕ) (wrong : Option Wrong) (what : Wrong) (fault : StepFault) → wrong ≡ Some what → TellsWrong number what fault
    → UnlessMemory (IsWrongTold number wrong) fault
tells number wrong what fault is told = unless_told (IsWrongTold number wrong) fault (record { what = what; is = is; told = told })

-- what holds anyway
pub if_ok : {A E P : Type 0} (result : Result A E) → P → IfOk result (λ (_ : A). P)
if_ok (Ok x) p = p
if_ok (Err e) p = tt

-- what leaves by `?`
pub checked_err : {T : Type 0} (number : ℕ) (wrong : Option Wrong) (result : Result T StepFault) (fault : StepFault)
    → IsErrAnd result (λ e. e ≡ fault) → UnlessMemory (IsWrongTold number wrong) fault → IsStepChecked number wrong result
checked_err number wrong (Ok x) fault is told = absurd is
checked_err number wrong (Err e) fault is told = subst (λ (f : StepFault). UnlessMemory (IsWrongTold number wrong) f) (sym is) told
