-- Canonical terms by their numbers.
use Rattle.std.specs.Prelude.{◌≡◌, ◌<◌, ℕ, length}
use Rattle.lotos_base.specs.Term.{Term}
use Rattle.sort_terms.specs.ProfiledTerm.{bare}
use Rattle.path_order.specs.RulesView.{signature_in}
use Rattle.path_order.specs.declared.rules.Rules.{Rules}
use Rattle.term_store.specs.Kept.{chosen_form}
use Rattle.term_store.specs.Numbered.{term_at}
use Rattle.term_store.specs.SharedView.{keys_in}
use Rattle.term_store.specs.declared.forms.Forms.{Forms}

-- The number is that of the chosen form of the term.
pub record NumbersForm (rules : Rules) (forms : Forms) (t : Term) (n : ℕ) : Type 0 where
  pub within : n < length (keys_in forms.shared)
  pub is : bare (term_at (signature_in rules) (keys_in forms.shared) n) ≡ chosen_form rules t
