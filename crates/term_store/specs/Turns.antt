-- What a turn does to the tasks and to what is kept.
use Rattle.std.specs.Prelude.{◌<◌, ℕ, List, length}
use Rattle.rewriting_theory.specs.Matching.{NoMatch, FirstStep}
use Rattle.sort_terms.specs.ProfiledTerm.{bare}
use Rattle.path_order.specs.RulesView.{signature_in, plain_rules_in}
use Rattle.path_order.specs.declared.rules.Rules.{Rules}
use Rattle.term_store.specs.Cells.{Grows}
use Rattle.term_store.specs.FormsBelow.{HasFormsBelow}
use Rattle.term_store.specs.Kept.{HasKeptForm, IsSoundStore}
use Rattle.term_store.specs.Numbered.{term_at}
use Rattle.term_store.specs.SharedView.{keys_in}
use Rattle.term_store.specs.Tasks.{AreDoable, After}
use Rattle.term_store.specs.Weight.{weights}
use Rattle.term_store.specs.declared.forms.Forms.{Forms}
use Rattle.term_store.specs.declared.tasks.Task.{Task}

-- The terms are of the signature of the rules, and what is kept for a term is its chosen form.
abbrev pub AreSound : Rules → Forms → Type 0
AreSound rules forms = IsSoundStore rules (keys_in forms.shared) forms.kept.items

-- They still are, and each term has the number that it had.
pub record StaySound (rules : Rules) (before after : Forms) : Type 0 where
  pub sound : AreSound rules after
  pub grows : Grows (keys_in before.shared) (keys_in after.shared)

-- Each of the tasks can be done when those behind it are done.
abbrev pub CanBeDone : Rules → Forms → List Task → Type 0
CanBeDone rules forms tasks = AreDoable rules (keys_in forms.shared) (HasKeptForm forms.kept.items) tasks

-- The tasks that are left can be done, they bring all that those before would have, and they are less work.
pub record Advances (rules : Rules) (before : Forms) (tasks : List Task) (after : Forms) (left : List Task) : Type 0 where
  pub ready : CanBeDone rules after left
  pub leads : (n : ℕ) → After (HasKeptForm before.kept.items) tasks n → After (HasKeptForm after.kept.items) left n
  pub falls : weights rules (keys_in after.shared) left < weights rules (keys_in before.shared) tasks

-- The term with the one number is the operation at the head of that with the other one, on the chosen forms of its
-- arguments.
pub record IsWholeOf (rules : Rules) (keys : List (List ℕ)) (term whole : ℕ) : Type 0 where
  pub term_within : term < length keys
  pub whole_within : whole < length keys
  pub below : HasFormsBelow (plain_rules_in rules) (bare (term_at (signature_in rules) keys term))
      (bare (term_at (signature_in rules) keys whole))

-- No rule matches the term with the number.
abbrev pub CannotStep : Rules → List (List ℕ) → ℕ → Type 0
CannotStep rules keys n = NoMatch (plain_rules_in rules) (bare (term_at (signature_in rules) keys n))

-- The first rule that matches it makes the term with the next number of it.
pub record StepsTo (rules : Rules) (keys : List (List ℕ)) (n next : ℕ) : Type 0 where
  pub within : next < length keys
  pub first : FirstStep (plain_rules_in rules) (bare (term_at (signature_in rules) keys n))
      (bare (term_at (signature_in rules) keys next))
