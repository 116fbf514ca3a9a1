-- How much tasks have left to do: a number that falls with each of them that is done.
use Rattle.std.specs.Prelude.{ℕ, zero, ◌+◌, ◌*◌, List, [], ◌∷◌}
use Rattle.lotos_base.specs.Term.{Term}
use Rattle.rewriting_theory.specs.Rule.{Rule}
use Rattle.rewriting_theory.specs.ChosenForm.{Chosen, chosen_variable, chosen_done, chosen_next}
use Rattle.rewriting_theory.specs.Measure.{cost, HaveChosenForms, choice_cost}
use Rattle.sort_terms.specs.ProfiledTerm.{bare}
use Rattle.path_order.specs.RulesView.{signature_in}
use Rattle.path_order.specs.declared.rules.Rules.{Rules}
use Rattle.path_order.proofs.RulesLemmas.{rules_have_forms}
use Rattle.term_store.specs.Numbered.{term_at}
use Rattle.term_store.specs.declared.tasks.Task.{Task}
use Rattle.term_store.specs.declared.tasks.Task.TheVariants.{Form, Apply, Keep}

-- what a derivation has left once the arguments are in their chosen forms
abbrev pub rest : {rules : List Rule} {t u : Term} → Chosen rules t u → ℕ
rest chosen_variable = zero
rest (chosen_done all none) = zero
rest (chosen_next all first next) = cost next

-- the same of the derivation of the term's chosen form
abbrev pub rest_cost : {rules : List Rule} → HaveChosenForms rules → Term → ℕ
rest_cost forms t = rest (forms t).1

-- the size of the derivation of the chosen form of the term with the number
abbrev pub cost_at : Rules → List (List ℕ) → ℕ → ℕ
cost_at rules keys n = choice_cost (rules_have_forms rules) (bare (term_at (signature_in rules) keys n))

-- what it has left once the arguments are in their chosen forms
abbrev pub rest_at : Rules → List (List ℕ) → ℕ → ℕ
rest_at rules keys n = rest_cost (rules_have_forms rules) (bare (term_at (signature_in rules) keys n))

-- the weight of a task
abbrev pub weight : Rules → List (List ℕ) → Task → ℕ
weight rules keys (Form k) = 4 * cost_at rules keys k
weight rules keys (Apply k) = 2 + 4 * rest_at rules keys k
weight rules keys (Keep term whole next) = 1

-- the weights of the tasks together
abbrev pub weights : Rules → List (List ℕ) → List Task → ℕ
weights rules keys [] = zero
weights rules keys (task ∷ tasks) = weight rules keys task + weights rules keys tasks
