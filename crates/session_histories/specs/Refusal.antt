-- Why a step is refused. The causes are looked for in the order in which they stand here.
use Rattle.std.specs.Prelude.{ℕ, zero, suc, List, ◌∷◌, length, nat_eq, if◌then◌else◌, slice_get, Option, None, Some, option_map}
use Rattle.lotos_base.specs.Signature.{Signature}
use Rattle.lotos_base.specs.Term.{Term}
use Rattle.lotos_base.specs.Sorting.{head_sort_of}
use Rattle.behaviour_semantics.specs.Behaviour.{Test}
use Rattle.behaviour_semantics.specs.Derives.{leaves_in}
use Rattle.behaviour_semantics.specs.Fault.{first_of_two}
use Rattle.behaviour_semantics.specs.Rule.{is_same_known_sort}
use Rattle.behaviour_semantics.specs.Solving.{Entry}
use Rattle.printed_texts.specs.HandedOn.{unmet_among}
use Rattle.session_histories.specs.Session.{SessionBasis}

-- The menu, which has so many entries, has none with this number; more or fewer values are given than the entry has
-- variables; a value has another sort than its variable, whose number is told; a condition fails, whose sides have these
-- canonical forms.
pub data StepRefusal : Type 0 where
  no_entry : (number count : ℕ) → StepRefusal
  value_count : (wanted given : ℕ) → StepRefusal
  value_sort : (variable : ℕ) → StepRefusal
  unmet : (left right : Term) → StepRefusal

-- The entry with this number. Entries are numbered from 1.
abbrev pub entry_numbered : List Entry → ℕ → Option Entry
entry_numbered menu zero = None
entry_numbered menu (suc position) = slice_get menu position

-- Whether there is an entry, and as many values are given as it has variables.
abbrev pub count_refusal : ℕ → ℕ → Option Entry → ℕ → Option StepRefusal
count_refusal number count None given = Some (no_entry number count)
count_refusal number count (Some entry) given =
    if nat_eq given (length entry.variables) then None else Some (value_count (length entry.variables) given)

abbrev pub number_refusal : List Entry → ℕ → ℕ → Option StepRefusal
number_refusal menu number given = count_refusal number (length menu) (entry_numbered menu number) given

-- The first value of another sort than its variable, where the first of these variables has this number.
abbrev pub sort_refusal : Signature → ℕ → List ℕ → List Term → Option StepRefusal
sort_refusal signature variable (sort ∷ sorts) (value ∷ values) =
    if is_same_known_sort (head_sort_of signature value) (Some sort)
    then sort_refusal signature (suc variable) sorts values
    else Some (value_sort variable)
sort_refusal signature variable _ _ = None

-- The first condition whose sides differ in canonical form with the values put in.
abbrev pub condition_refusal : (Term → Term) → Entry → List Term → Option StepRefusal
condition_refusal canon entry values =
    option_map (λ (test : Test). unmet test.left test.right) (unmet_among canon (leaves_in values) entry.conditions)

-- What is wrong with values for an entry, of which there are as many as the entry has variables.
abbrev pub value_refusal : Signature → (Term → Term) → Option Entry → List Term → Option StepRefusal
value_refusal signature canon None values = None
value_refusal signature canon (Some entry) values =
    first_of_two (sort_refusal signature 0 entry.variables values) (condition_refusal canon entry values)

-- Why the step by the entry with this number and these values is refused, if it is.
abbrev pub step_refusal : SessionBasis → List Entry → ℕ → List Term → Option StepRefusal
step_refusal basis menu number values =
    first_of_two (number_refusal menu number (length values))
    (value_refusal basis.data_.signature basis.canon (entry_numbered menu number) values)
