-- The size of the derivation of a chosen form is smaller for its parts.
use Rattle.std.proofs.Common.{◌≡◌, ◌<◌, ◌+◌, ℕ, zero, suc, List, refl, sym, subst, arith}
use Rattle.std.specs.Prelude.{Some}
use Rattle.std.proofs.lemmas.Option.{same_Some}
use Rattle.lotos_base.specs.Term.{Term, node, Terms}
use Rattle.lotos_base.specs.Path.{argument_at}
use Rattle.rewriting_theory.specs.Rule.{Rule, AreWellFormedRules}
use Rattle.rewriting_theory.specs.Matching.{NoMatch, FirstStep}
use Rattle.rewriting_theory.specs.ChosenForm.{Chosen, chosen_done, chosen_next, AllChosen, all_chosen, chosen_then}
use Rattle.rewriting_theory.specs.Measure.{IsChoiceMeasure, cost, costs, HaveChosenForms, choice_cost}
use Rattle.rewriting_theory.proofs.ChosenLemmas.{cost_same, all_chosen_one}
use Rattle.rewriting_theory.proofs.MatchLemmas.{first_matches, first_step_once}

-- the derivation of one of several chosen forms
record OneOf (rules : List Rule) (t : Term) (bound : ℕ) : Type 0 where
  form : Term
  chosen : Chosen rules t form
  small : cost chosen < bound

one_of : {rules : List Rule} {us : Terms} (k : ℕ) (ts : Terms) (t : Term) → argument_at k ts ≡ Some t → (all : AllChosen rules ts us)
    → OneOf rules t (suc (costs all))
one_of k ts t e all_chosen = cc
one_of {rules = rules} zero ts t e (chosen_then {t = v} {u = u} one rest) =
    subst (λ (w : Term). OneOf rules w (suc (cost one + costs rest))) (same_Some v t e)
    (record { form = u; chosen = one; small = omega arith })
one_of (suc k) ts t e (chosen_then {ts = vs} one rest) =
    let later = one_of k vs t e rest in
    record { form = later.form; chosen = later.chosen; small = let small = later.small in omega (arith, small) }

-- an argument of an operation
cost_argument : {rules : List Rule} {u : Term} (f k : ℕ) (ts : Terms) (t : Term) → argument_at k ts ≡ Some t
    → (chosen : Chosen rules (node f ts) u) → OneOf rules t (cost chosen)
cost_argument f k ts t e (chosen_done all none) =
    let inner = one_of k ts t e all in
    record { form = inner.form; chosen = inner.chosen; small = let small = inner.small in omega (arith, small) }
cost_argument f k ts t e (chosen_next all first next) =
    let inner = one_of k ts t e all in
    record { form = inner.form; chosen = inner.chosen; small = let small = inner.small in omega (arith, small) }

-- what the first rule makes of the operation on the chosen forms of its arguments
cost_next : {rules : List Rule} {u : Term} (f : ℕ) (ts us : Terms) (t : Term) → AreWellFormedRules rules → AllChosen rules ts us
    → FirstStep rules (node f us) t → (chosen : Chosen rules (node f ts) u) → (form : (v : Term) × Chosen rules t v)
    → cost form.1 < cost chosen
cost_next {rules = rules} f ts us t well all first (chosen_done others none) form =
    let same = all_chosen_one well all others in
    absurd (first_matches first (subst (λ (ws : Terms). NoMatch rules (node f ws)) (sym same) none))
cost_next {rules = rules} f ts us t well all first (chosen_next {t = w} others second next) form =
    let same = all_chosen_one well all others in
    let after : t ≡ w = first_step_once well (subst (λ (ws : Terms). FirstStep rules (node f ws) t) same first) second in
    let sizes : cost form.1 ≡ cost next = cost_same well after form.1 next in
    omega (arith, sizes)

pub costs_are_measures : (rules : List Rule) (forms : HaveChosenForms rules) → AreWellFormedRules rules
    → IsChoiceMeasure rules (choice_cost forms)
costs_are_measures rules forms well = record {
  arguments = λ f k ts t e.
      let inner = cost_argument f k ts t e (forms (node f ts)).1 in
      let small = inner.small in
      let same : cost (forms t).1 ≡ cost inner.chosen = cost_same well refl (forms t).1 inner.chosen in
      omega (arith, small, same);
  next = λ f ts us t all first. cost_next f ts us t well all first (forms (node f ts)).1 (forms t);
}
