-- A measure of terms by which a program that makes chosen forms ends: it is smaller for each argument of an operation, and
-- for what the first rule that matches makes of the operation on the chosen forms of its arguments.
use Rattle.std.specs.Prelude.{◌≡◌, ◌<◌, ◌+◌, ℕ, zero, suc, List, Some}
use Rattle.lotos_base.specs.Term.{Term, node, Terms}
use Rattle.lotos_base.specs.Path.{argument_at}
use Rattle.rewriting_theory.specs.Rule.{Rule, AreWellFormedRules}
use Rattle.rewriting_theory.specs.Matching.{FirstStep}
use Rattle.rewriting_theory.specs.Rewriting.{Terminates}
use Rattle.rewriting_theory.specs.ChosenForm.{Chosen, chosen_variable, chosen_done, chosen_next, AllChosen, all_chosen, chosen_then}

-- The measure is smaller wherever such a program calls itself.
pub record IsChoiceMeasure (rules : List Rule) (measure : Term → ℕ) : Type 0 where
  pub arguments : (f k : ℕ) (ts : Terms) (t : Term) → argument_at k ts ≡ Some t → measure t < measure (node f ts)
  pub next : (f : ℕ) (ts us : Terms) (t : Term) → AllChosen rules ts us → FirstStep rules (node f us) t
      → measure t < measure (node f ts)

abbrev mutual
  -- The size of the derivation of a chosen form.
  pub cost : {rules : List Rule} {t u : Term} → Chosen rules t u → ℕ
  cost chosen_variable = 1
  cost (chosen_done all none) = suc (costs all)
  cost (chosen_next all first next) = suc (costs all + cost next)

  -- The sizes of those of a list together.
  pub costs : {rules : List Rule} {ts us : Terms} → AllChosen rules ts us → ℕ
  costs all_chosen = zero
  costs (chosen_then one rest) = cost one + costs rest

-- Each term has a chosen form, as it has where rewriting ends.
abbrev pub HaveChosenForms : List Rule → Type 0
HaveChosenForms rules = (t : Term) → (u : Term) × Chosen rules t u

-- The size of the derivation of the term's chosen form. A term has only one such size.
abbrev pub choice_cost : {rules : List Rule} → HaveChosenForms rules → Term → ℕ
choice_cost forms t = cost (forms t).1

-- such sizes are such a measure
abbrev pub CostsAreMeasures : Type 0
CostsAreMeasures = (rules : List Rule) (forms : HaveChosenForms rules) → AreWellFormedRules rules
    → IsChoiceMeasure rules (choice_cost forms)

-- so there is one where rewriting ends
abbrev pub MeasuresExist : Type 0
MeasuresExist = (rules : List Rule) → AreWellFormedRules rules → Terminates rules
    → (measure : Term → ℕ) × IsChoiceMeasure rules measure
