-- The tasks by which the chosen form of a term comes to be kept: they are done from the last one of a list on.
use Rattle.std.specs.Prelude.{◌≡◌, ◌<◌, ◌⊎◌, ℕ, Option, None, Some, List, [], ◌∷◌, ◌++◌, length}
use Rattle.std.proofs.Common.{get_or}
use Rattle.sort_terms.specs.ProfiledTerm.{bare}
use Rattle.path_order.specs.RulesView.{signature_in}
use Rattle.path_order.specs.declared.rules.Rules.{Rules}
use Rattle.term_store.specs.Cells.{operation_in}
use Rattle.term_store.specs.Kept.{kept_at, chosen_form, forms_of}
use Rattle.term_store.specs.Numbered.{term_at}
use Rattle.term_store.specs.declared.tasks.Task.{Task}
use Rattle.term_store.specs.declared.tasks.Task.TheVariants.{Form, Apply, Keep}

-- Each of the numbers is so.
abbrev pub AreAll : (ℕ → Type 0) → List ℕ → Type 0
AreAll P [] = Unit {0}
AreAll P (n ∷ ns) = P n × AreAll P ns

-- the numbers of the arguments of an operation; of a variable there are none
abbrev pub numbers_of_arguments : Option (ℕ × List ℕ) → List ℕ
numbers_of_arguments None = []
numbers_of_arguments (Some found) = found.1

-- those of the arguments of the term with the number
abbrev pub arguments_at : List (List ℕ) → ℕ → List ℕ
arguments_at keys n = numbers_of_arguments (operation_in (get_or keys n []))

-- The form of the term with the number is kept when the task is done.
abbrev pub Brings : Task → ℕ → Type 0
Brings (Form k) n = n ≡ k
Brings (Apply k) n = n ≡ k
Brings (Keep term whole next) n = (n ≡ term) ⊎ (n ≡ whole)

-- It is kept before the tasks, or when they are done.
abbrev pub After : (ℕ → Type 0) → List Task → ℕ → Type 0
After known [] n = known n
After known (task ∷ tasks) n = After known tasks n ⊎ Brings task n

-- The two terms have one chosen form.
abbrev pub HaveOneForm : Rules → List (List ℕ) → ℕ → ℕ → Type 0
HaveOneForm rules keys n m =
    chosen_form rules (bare (term_at (signature_in rules) keys n)) ≡ chosen_form rules (bare (term_at (signature_in rules) keys m))

-- The form of the next term is known, and it is that of the other two.
pub record IsHandedOn (rules : Rules) (keys : List (List ℕ)) (known : ℕ → Type 0) (term whole next : ℕ) : Type 0 where
  pub term_within : term < length keys
  pub whole_within : whole < length keys
  pub next_within : next < length keys
  pub is_known : known next
  pub of_term : HaveOneForm rules keys term next
  pub of_whole : HaveOneForm rules keys whole next

-- The task can be done where these forms are known.
abbrev pub IsDoable : Rules → List (List ℕ) → (ℕ → Type 0) → Task → Type 0
IsDoable rules keys known (Form k) = k < length keys
IsDoable rules keys known (Apply k) = (k < length keys) × AreAll known (arguments_at keys k)
IsDoable rules keys known (Keep term whole next) = IsHandedOn rules keys known term whole next

-- Each of the tasks can be done when those behind it are done.
abbrev pub AreDoable : Rules → List (List ℕ) → (ℕ → Type 0) → List Task → Type 0
AreDoable rules keys known [] = Unit {0}
AreDoable rules keys known (task ∷ tasks) = IsDoable rules keys (After known tasks) task × AreDoable rules keys known tasks

-- the task of finding a form that is not kept yet
abbrev pub form_task : ℕ → Option ℕ → List Task
form_task n None = Form n ∷ []
form_task n (Some m) = []

-- those for the terms of a list
abbrev pub form_tasks : List (Option ℕ) → List ℕ → List Task
form_tasks kept [] = []
form_tasks kept (n ∷ ns) = form_task n (kept_at kept n) ++ form_tasks kept ns

-- the tasks in whose place stands that of finding the form of a term: none where it is kept, else those of its arguments
-- and then the operation
abbrev pub begun_tasks : List (Option ℕ) → List (List ℕ) → ℕ → Option ℕ → List Task
begun_tasks kept keys n None = Apply n ∷ form_tasks kept (arguments_at keys n)
begun_tasks kept keys n (Some m) = []

-- the key of the operation on the forms that are kept for its arguments; that of a variable is its own
abbrev pub key_with_forms : List (Option ℕ) → List ℕ → Option (ℕ × List ℕ) → List ℕ
key_with_forms kept key None = key
key_with_forms kept key (Some found) = 1 ∷ found.0 ∷ forms_of kept found.1

-- the key of the operation at the head of the term with the number, on the forms that are kept for its arguments
abbrev pub whole_key : List (Option ℕ) → List (List ℕ) → ℕ → List ℕ
whole_key kept keys n = key_with_forms kept (get_or keys n []) (operation_in (get_or keys n []))
