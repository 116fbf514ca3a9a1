-- Parts of a search for the first unknown name: a stretch of a list, and whether an operation with a number has a form.
use Rattle.std.specs.Prelude.{ℕ, zero, suc, ◌-◌, Bool, false, List, take, drop, Option, None, Some, slice_get}
use Rattle.std.specs.List.{list_any}
use Rattle.lotos_base.specs.Signature.{Signature, Operation, Form, prefix_form, infix_form}
use Rattle.lotos_base.specs.Twins.{form_eq}

-- the members from a position on and before another one
abbrev pub between : {A : Type 0} → ℕ → ℕ → List A → List A
between from to xs = take (to - from) (drop from xs)

-- how many of so many arguments stand before the name
abbrev pub early_count : Form → ℕ → ℕ
early_count prefix_form n = 0
early_count infix_form zero = 0
early_count infix_form (suc n) = 1

-- whether the operation has the form
abbrev pub form_is : Form → Option Operation → Bool
form_is form None = false
form_is form (Some operation) = form_eq operation.form form

-- whether one of the operations with these numbers has the form
abbrev pub any_of_form : Signature → Form → List ℕ → Bool
any_of_form signature form numbers = list_any (λ number. form_is form (slice_get signature.operations number)) numbers
