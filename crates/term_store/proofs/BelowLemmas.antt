-- What comes of an operation once its arguments are in their chosen forms.
use Rattle.std.proofs.Common.{arith, refl, sym, ◌≡◌, ◌<◌, ◌+◌, subst, ℕ, zero, suc, List}
use Rattle.lotos_base.specs.Term.{Term, variable, node, Terms, no_terms, term_then}
use Rattle.rewriting_theory.specs.Rule.{Rule, AreWellFormedRules}
use Rattle.rewriting_theory.specs.Matching.{NoMatch, FirstStep}
use Rattle.rewriting_theory.specs.ChosenForm.{Chosen, chosen_variable, chosen_done, chosen_next, AllChosen, all_chosen, chosen_then}
use Rattle.rewriting_theory.specs.Measure.{cost, costs, HaveChosenForms, choice_cost}
use Rattle.rewriting_theory.proofs.ChosenLemmas.{chosen_one, all_chosen_one, cost_same, variable_stuck}
use Rattle.rewriting_theory.proofs.MatchLemmas.{first_matches, first_step_once, root_of_first}
use Rattle.rewriting_theory.specs.Step.{at_root}
use Rattle.term_store.specs.FormsBelow.{HasFormsBelow, of_variable, of_operation}
use Rattle.term_store.specs.Weight.{rest, rest_cost}

-- ---- Chosen forms are their own

mutual
  pub own_form : {rules : List Rule} {t u : Term} → Chosen rules t u → Chosen rules u u
  own_form chosen_variable = chosen_variable
  own_form (chosen_done all none) = chosen_done (own_forms all) none
  own_form (chosen_next all first next) = own_form next

  pub own_forms : {rules : List Rule} {ts us : Terms} → AllChosen rules ts us → AllChosen rules us us
  own_forms all_chosen = all_chosen
  own_forms (chosen_then one rest) = chosen_then (own_form one) (own_forms rest)

-- ---- The form of the whole

-- what is the chosen form of the one is that of the other
whole_chosen : {rules : List Rule} {u : Term} (f : ℕ) (ts us : Terms) → AreWellFormedRules rules → AllChosen rules ts us
    → Chosen rules (node f ts) u → Chosen rules (node f us) u
whole_chosen {rules = rules} f ts us well all (chosen_done others none) =
    let same = all_chosen_one well others all in
    subst (λ (ws : Terms). Chosen rules (node f us) (node f ws)) (sym same)
    (chosen_done (own_forms all) (subst (λ (ws : Terms). NoMatch rules (node f ws)) same none))
whole_chosen {rules = rules} f ts us well all (chosen_next {t = t} others first next) =
    let same = all_chosen_one well others all in
    chosen_next (own_forms all) (subst (λ (ws : Terms). FirstStep rules (node f ws) t) same first) next

pub below_form : {rules : List Rule} {t w : Term} (forms : HaveChosenForms rules) → AreWellFormedRules rules → HasFormsBelow rules t w
    → (forms t).0 ≡ (forms w).0
below_form forms well of_variable = refl
below_form forms well (of_operation {f = f} {ts = ts} {us = us} all) =
    chosen_one well (whole_chosen f ts us well all (forms (node f ts)).1) (forms (node f us)).1

-- where no rule matches it, it is that form
pub below_done : {rules : List Rule} {t w : Term} (forms : HaveChosenForms rules) → AreWellFormedRules rules → HasFormsBelow rules t w
    → NoMatch rules w → w ≡ (forms w).0
below_done forms well (of_variable {n = n} {s = s}) none = chosen_one well chosen_variable (forms (variable n s)).1
below_done forms well (of_operation {f = f} {us = us} all) none =
    chosen_one well (chosen_done (own_forms all) none) (forms (node f us)).1

-- where one does, the form is that of what the first one makes
pub below_next : {rules : List Rule} {t w v : Term} (forms : HaveChosenForms rules) → AreWellFormedRules rules
    → HasFormsBelow rules t w → FirstStep rules w v → (forms w).0 ≡ (forms v).0
below_next forms well (of_variable {n = n} {s = s}) first = absurd (variable_stuck n s well _ (at_root (root_of_first first)))
below_next {v = v} forms well (of_operation {f = f} {us = us} all) first =
    chosen_one well (forms (node f us)).1 (chosen_next (own_forms all) first (forms v).1)

-- ---- What is left to do

-- the sizes of the derivations of the chosen forms together
abbrev pub choice_costs : {rules : List Rule} → HaveChosenForms rules → Terms → ℕ
choice_costs forms no_terms = zero
choice_costs forms (term_then t ts) = choice_cost forms t + choice_costs forms ts

-- the sizes of given derivations are those of the terms
costs_of : {rules : List Rule} {ts us : Terms} (forms : HaveChosenForms rules) → AreWellFormedRules rules
    → (all : AllChosen rules ts us) → costs all ≡ choice_costs forms ts
costs_of forms well all_chosen = refl
costs_of forms well (chosen_then {t = t} one later) =
    let here : cost one ≡ choice_cost forms t = cost_same well refl one (forms t).1 in
    let there = costs_of forms well later in
    (λ i. here i + there i)

-- a derivation is one turn, what its arguments take, and the rest
parts_of : {rules : List Rule} {u : Term} (f : ℕ) (ts : Terms) (forms : HaveChosenForms rules) → AreWellFormedRules rules
    → (chosen : Chosen rules (node f ts) u) → cost chosen ≡ suc (choice_costs forms ts + rest chosen)
parts_of f ts forms well (chosen_done all none) =
    let same = costs_of forms well all in
    omega (arith, same)
parts_of f ts forms well (chosen_next all first next) =
    let same = costs_of forms well all in
    omega (arith, same)

pub cost_parts : {rules : List Rule} (f : ℕ) (ts : Terms) (forms : HaveChosenForms rules) → AreWellFormedRules rules
    → choice_cost forms (node f ts) ≡ suc (choice_costs forms ts + rest_cost forms (node f ts))
cost_parts f ts forms well = parts_of f ts forms well (forms (node f ts)).1

-- that of a variable is one turn
pub variable_cost : {rules : List Rule} (n s : ℕ) (forms : HaveChosenForms rules)
    → choice_cost forms (variable n s) ≡ suc (rest_cost forms (variable n s))
variable_cost {rules = rules} n s forms = go (forms (variable n s)).1
  where
    go : {u : Term} (chosen : Chosen rules (variable n s) u) → cost chosen ≡ suc (rest chosen)
    go chosen_variable = refl

-- the rest is what the first rule that matches leads to
rest_of : {rules : List Rule} {u : Term} (f : ℕ) (ts us : Terms) (t : Term) (forms : HaveChosenForms rules) → AreWellFormedRules rules
    → AllChosen rules ts us → FirstStep rules (node f us) t → (chosen : Chosen rules (node f ts) u)
    → choice_cost forms t ≡ rest chosen
rest_of {rules = rules} f ts us t forms well all first (chosen_done others none) =
    absurd (first_matches first (subst (λ (ws : Terms). NoMatch rules (node f ws)) (sym (all_chosen_one well all others)) none))
rest_of {rules = rules} f ts us t forms well all first (chosen_next {t = w} others second next) =
    let same = all_chosen_one well all others in
    let after : t ≡ w = first_step_once well (subst (λ (ws : Terms). FirstStep rules (node f ws) t) same first) second in
    cost_same well after (forms t).1 next

pub below_cost : {rules : List Rule} {t w v : Term} (forms : HaveChosenForms rules) → AreWellFormedRules rules
    → HasFormsBelow rules t w → FirstStep rules w v → choice_cost forms v ≡ rest_cost forms t
below_cost forms well (of_variable {n = n} {s = s}) first = absurd (variable_stuck n s well _ (at_root (root_of_first first)))
below_cost {v = v} forms well (of_operation {f = f} {ts = ts} {us = us} all) first =
    rest_of f ts us v forms well all first (forms (node f ts)).1

-- there is always something to do
pub has_cost : {rules : List Rule} {t u : Term} (chosen : Chosen rules t u) → zero < cost chosen
has_cost chosen_variable = omega arith
has_cost (chosen_done all none) = omega arith
has_cost (chosen_next all first next) = omega arith
