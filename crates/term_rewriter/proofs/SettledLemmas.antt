-- A chosen form is its own chosen form, and to find that out costs no more than to find the form.
use Rattle.std.proofs.Common.{◌≡◌, ◌≤◌, ℕ, List, refl, sym, subst, arith}
use Rattle.lotos_base.specs.Term.{Term, node, Terms, term_then}
use Rattle.rewriting_theory.specs.Rule.{Rule, AreWellFormedRules}
use Rattle.rewriting_theory.specs.Matching.{NoMatch, FirstStep}
use Rattle.rewriting_theory.specs.ChosenForm.{Chosen, chosen_variable, chosen_done, chosen_next, AllChosen, all_chosen, chosen_then}
use Rattle.rewriting_theory.specs.Measure.{cost, costs}
use Rattle.rewriting_theory.proofs.ChosenLemmas.{cost_same, all_chosen_one}
use Rattle.rewriting_theory.proofs.MatchLemmas.{first_matches, first_step_once}

-- The second derivation begins where the first one ends.
record IsSettled {rules : List Rule} {t u u' v : Term} (one : Chosen rules t u) (two : Chosen rules u' v) : Type 0 where
  form : v ≡ u
  cheaper : cost two ≤ cost one

record AreSettled {rules : List Rule} {ts us us' vs : Terms} (one : AllChosen rules ts us) (two : AllChosen rules us' vs)
    : Type 0 where
  forms : vs ≡ us
  cheaper : costs two ≤ costs one

mutual
  settled : {rules : List Rule} {t u u' v : Term} → u ≡ u' → (one : Chosen rules t u) (two : Chosen rules u' v) → IsSettled one two
  settled e chosen_variable chosen_variable = record { form = sym e; cheaper = omega arith }
  settled e chosen_variable (chosen_done all none) = cc
  settled e chosen_variable (chosen_next all first next) = cc
  settled e (chosen_done all none) chosen_variable = cc
  settled e (chosen_done {f = f} {us = us} all none) (chosen_done {f = g} {ts = us'} others nothing) =
      let heads : f ≡ g = cc in
      let lists : us ≡ us' = cc in
      let rest = all_settled lists all others in
      let small = rest.cheaper in
      record { form = (λ i. node (sym heads i) (rest.forms i)); cheaper = omega (arith, small) }
  settled {rules = rules} e (chosen_done {f = f} {us = us} all none) (chosen_next {f = g} {ts = us'} others first next) =
      let heads : f ≡ g = cc in
      let lists : us ≡ us' = cc in
      let rest = all_settled lists all others in
      absurd (first_matches first (subst (λ (v : Term). NoMatch rules v) (λ i. node (heads i) (sym rest.forms i)) none))
  settled e (chosen_next all first next) two =
      let rest = settled e next two in
      let small = rest.cheaper in
      record { form = rest.form; cheaper = omega (arith, small) }

  all_settled : {rules : List Rule} {ts us us' vs : Terms} → us ≡ us' → (one : AllChosen rules ts us) (two : AllChosen rules us' vs)
      → AreSettled one two
  all_settled e all_chosen all_chosen = record { forms = refl; cheaper = omega arith }
  all_settled e all_chosen (chosen_then one rest) = cc
  all_settled e (chosen_then one rest) all_chosen = cc
  all_settled e (chosen_then {u = u} {us = us} one rest) (chosen_then {t = u'} {ts = us'} other others) =
      let heads : u ≡ u' = cc in
      let tails : us ≡ us' = cc in
      let first = settled heads one other in
      let later = all_settled tails rest others in
      let small = first.cheaper in
      let smaller = later.cheaper in
      record { forms = (λ i. term_then (first.form i) (later.forms i)); cheaper = omega (arith, small, smaller) }

-- the operation on the chosen forms costs no more than that on the arguments
pub forms_cost_less : {rules : List Rule} {f : ℕ} {ts us : Terms} {u v : Term} → AreWellFormedRules rules → AllChosen rules ts us
    → (one : Chosen rules (node f ts) u) (two : Chosen rules (node f us) v) → cost two ≤ cost one
forms_cost_less {f = f} well all (chosen_done others none) two =
    let same = all_chosen_one well others all in
    (settled (λ i. node f (same i)) (chosen_done others none) two).cheaper
forms_cost_less {f = f} well all (chosen_next others first next) (chosen_done inner none) =
    let same = all_chosen_one well others all in
    let small = (all_settled same others inner).cheaper in
    omega (arith, small)
forms_cost_less {rules = rules} {f = f} well all (chosen_next {t = t} others first next) (chosen_next {t = t'} inner second later) =
    let same = all_chosen_one well others all in
    let rest = all_settled same others inner in
    let small = rest.cheaper in
    let afters : t ≡ t' =
    first_step_once well (subst (λ (w : Term). FirstStep rules w t) (λ i. node f (sym rest.forms i)) first) second in
    let sizes : cost next ≡ cost later = cost_same well afters next later in
    omega (arith, small, sizes)

-- and has the same chosen form
pub forms_form : {rules : List Rule} {f : ℕ} {ts us : Terms} {v : Term} → AllChosen rules ts us → Chosen rules (node f us) v
    → Chosen rules (node f ts) v
forms_form {rules = rules} {ts = ts} all (chosen_done inner none) =
    chosen_done (subst (λ (ws : Terms). AllChosen rules ts ws) (sym (all_settled refl all inner).forms) all) none
forms_form {rules = rules} {ts = ts} all (chosen_next inner first next) =
    chosen_next (subst (λ (ws : Terms). AllChosen rules ts ws) (sym (all_settled refl all inner).forms) all) first next
