-- The normal forms of sums of natural numbers are their chosen forms, so they are a canon.
use Rattle.std.proofs.Common.{◌≡◌, ℕ, zero, suc, List, [], ◌∷◌, nat_eq, refl, ap, sym, arith}
use Rattle.std.specs.Prelude.{if◌then◌else◌}
use Rattle.lotos_base.specs.Term.{Term, variable, node, Terms, no_terms, term_then}
use Rattle.lotos_base.specs.SmallData.{natural_data, nought, successor, plus, x_natural, y_natural}
use Rattle.lotos_base.specs.Equation.{HasSortedSides}
use Rattle.lotos_base.proofs.ExampleLemmas.{sorting_examples}
use Rattle.lotos_base.proofs.SortLemmas.{well_formed_sides}
use Rattle.rewriting_theory.specs.Rule.{Rule, AreWellFormedRules}
use Rattle.rewriting_theory.specs.Matching.{NoMatch}
use Rattle.rewriting_theory.specs.Rewriting.{IsNormal}
use Rattle.rewriting_theory.specs.ChosenForm.{Chosen, chosen_variable, chosen_done, chosen_next, AllChosen, all_chosen, chosen_then}
use Rattle.rewriting_theory.proofs.MatchLemmas.{no_match_then, first_step_later, first_step_here, no_rule}
use Rattle.rewriting_theory.proofs.PublicLemmas.{normal_chosen, chosen_normal}
use Rattle.rewriting_theory.specs.Orientation.{NumberedRule}
use Rattle.rewriting_theory.specs.OrderCases.{later_above}
use Rattle.rewriting_theory.specs.OrientationCases.{rule_from_equation, addition_rules}
use Rattle.rewriting_theory.proofs.AdditionLemmas.{addition_canon_cases}
use Rattle.rewriting_theory.proofs.OrientationCaseLemmas.{addition_cases}
use Rattle.rewriting_theory.proofs.ChosenCanonLemmas.{sorted_rules, chosen_canon}
use Rattle.certificate_theory.specs.Certified.{IsFit}
use Rattle.certificate_theory.specs.Addition.{added, with_sum, summed, all_summed, addition}
use Rattle.certificate_theory.proofs.ArgumentLemmas.{argument_normal}

abbrev first_rule : Rule
first_rule = record { left = plus nought x_natural; right = x_natural }

abbrev second_rule : Rule
second_rule = record { left = plus (successor x_natural) y_natural; right = successor (plus x_natural y_natural) }

abbrev numbered : List NumberedRule
numbered =
    rule_from_equation 0 (plus nought x_natural) x_natural
    ∷ rule_from_equation 1 (plus (successor x_natural) y_natural) (successor (plus x_natural y_natural))
    ∷ []

sorted_sides : HasSortedSides natural_data
sorted_sides = well_formed_sides natural_data sorting_examples.naturals

well_formed : AreWellFormedRules addition_rules
well_formed = (sorted_rules later_above natural_data numbered sorted_sides addition_cases.rules).well_formed

-- ---- what no rule matches

no_match : (t : Term) → ((u : Term) → t ≡ plus nought u → ⊥) → ((a u : Term) → t ≡ plus (successor a) u → ⊥)
    → NoMatch addition_rules t
no_match t first second =
    no_match_then first_rule (second_rule ∷ []) t (λ m. first (m.0 0 0) (sym m.1))
    (no_match_then second_rule [] t (λ m. second (m.0 0 0) (m.0 1 0) (sym m.1)) (no_rule t))

-- the operation of a term, and its first argument
abbrev operation_of : Term → ℕ
operation_of (variable n s) = 0
operation_of (node f ts) = f

abbrev first_of : Terms → Term
first_of no_terms = variable 0 0
first_of (term_then t ts) = t

abbrev first_argument : Term → Term
first_argument (variable n s) = variable n s
first_argument (node f ts) = first_of ts

-- no sum: another operation
other_operation : (f : ℕ) (ts : Terms) → (f ≡ 2 → ⊥) → NoMatch addition_rules (node f ts)
other_operation f ts differ =
    no_match (node f ts) (λ u e. differ (ap operation_of e)) (λ a u e. differ (ap operation_of e))

-- a sum whose left argument is neither 0 nor Succ of a term
stuck_sum : (t u : Term) → (t ≡ nought → ⊥) → ((a : Term) → t ≡ successor a → ⊥) → NoMatch addition_rules (plus t u)
stuck_sum t u no_nought no_successor =
    no_match (plus t u) (λ v e. no_nought (ap first_argument e)) (λ a v e. no_successor a (ap first_argument e))

-- ---- chosen forms

again : (t : Term) → IsNormal addition_rules t → Chosen addition_rules t t
again t normal = normal_chosen addition_canon_cases.ends normal

sum_chosen : (t u : Term) (ts : Terms) → AllChosen addition_rules ts (term_then t (term_then u no_terms)) → IsNormal addition_rules t
    → IsNormal addition_rules u → Chosen addition_rules (node 2 ts) (added t u)
sum_chosen (variable n s) u ts all normal other =
    chosen_done all (stuck_sum (variable n s) u (λ e. absurd (cc e)) (λ a e. absurd (cc e)))
sum_chosen (node zero no_terms) u ts all normal other =
    chosen_next all (first_step_here first_rule (second_rule ∷ []) (plus nought u) ((λ n s. u), refl)) (again u other)
sum_chosen (node zero (term_then a more)) u ts all normal other =
    chosen_done all (stuck_sum (node zero (term_then a more)) u (λ e. absurd (cc e)) (λ b e. absurd (cc e)))
sum_chosen (node (suc zero) no_terms) u ts all normal other =
    chosen_done all (stuck_sum (node 1 no_terms) u (λ e. absurd (cc e)) (λ b e. absurd (cc e)))
sum_chosen (node (suc zero) (term_then a no_terms)) u ts all normal other =
    let below = argument_normal addition_rules 1 0 (term_then a no_terms) a refl normal in
    chosen_next all
    (first_step_later first_rule (second_rule ∷ []) (plus (successor a) u) (successor (plus a u))
    (λ m. let e : nought ≡ successor a = ap first_argument m.1 in absurd (cc e))
    (first_step_here second_rule [] (plus (successor a) u) ((λ n s. if nat_eq n 0 then a else u), refl)))
    (chosen_done
    (chosen_then
    (sum_chosen a u (term_then a (term_then u no_terms)) (chosen_then (again a below) (chosen_then (again u other) all_chosen)) below other)
    all_chosen)
    (other_operation 1 (term_then (added a u) no_terms) (λ e. absurd (cc e))))
sum_chosen (node (suc zero) (term_then a (term_then b more))) u ts all normal other =
    chosen_done all (stuck_sum (node 1 (term_then a (term_then b more))) u (λ e. absurd (cc e)) (λ c e. absurd (cc e)))
sum_chosen (node (suc (suc f)) more) u ts all normal other =
    chosen_done all (stuck_sum (node (suc (suc f)) more) u
    (λ e. let h : suc (suc f) ≡ 0 = ap operation_of e in absurd (omega (arith, h)))
    (λ a e. let h : suc (suc f) ≡ 1 = ap operation_of e in absurd (omega (arith, h))))

-- Each argument is irreducible.
abbrev AllNormal : Terms → Type 0
AllNormal no_terms = Unit {0}
AllNormal (term_then t ts) = IsNormal addition_rules t × AllNormal ts

all_normal : {ts us : Terms} → AllChosen addition_rules ts us → AllNormal us
all_normal all_chosen = tt
all_normal (chosen_then one rest) = (chosen_normal well_formed one, all_normal rest)

with_sum_chosen : (f : ℕ) (ts us : Terms) → AllChosen addition_rules ts us → AllNormal us
    → Chosen addition_rules (node f ts) (with_sum f us)
with_sum_chosen zero ts us all normal = chosen_done all (other_operation 0 us (λ e. absurd (cc e)))
with_sum_chosen (suc zero) ts us all normal = chosen_done all (other_operation 1 us (λ e. absurd (cc e)))
with_sum_chosen (suc (suc zero)) ts no_terms all normal =
    chosen_done all (no_match (node 2 no_terms) (λ u e. absurd (cc e)) (λ a u e. absurd (cc e)))
with_sum_chosen (suc (suc zero)) ts (term_then t no_terms) all normal =
    chosen_done all (no_match (node 2 (term_then t no_terms)) (λ u e. absurd (cc e)) (λ a u e. absurd (cc e)))
with_sum_chosen (suc (suc zero)) ts (term_then t (term_then u no_terms)) all normal =
    sum_chosen t u ts all normal.0 normal.1.0
with_sum_chosen (suc (suc zero)) ts (term_then t (term_then u (term_then v us))) all normal =
    chosen_done all
    (no_match (node 2 (term_then t (term_then u (term_then v us)))) (λ w e. absurd (cc e)) (λ a w e. absurd (cc e)))
with_sum_chosen (suc (suc (suc f))) ts us all normal =
    chosen_done all (other_operation (suc (suc (suc f))) us (λ h. absurd (omega (arith, h))))

mutual
  summed_chosen : (t : Term) → Chosen addition_rules t (summed t)
  summed_chosen (variable n s) = chosen_variable
  summed_chosen (node f ts) = with_sum_chosen f ts (all_summed ts) (all_summed_chosen ts) (all_normal (all_summed_chosen ts))

  all_summed_chosen : (ts : Terms) → AllChosen addition_rules ts (all_summed ts)
  all_summed_chosen no_terms = all_chosen
  all_summed_chosen (term_then t ts) = chosen_then (summed_chosen t) (all_summed_chosen ts)

-- so what is asked of data and of a canon holds of addition
pub addition_fit : IsFit addition
addition_fit = record {
  signature = sorting_examples.naturals.signature;
  rules = sorted_rules later_above natural_data numbered sorted_sides addition_cases.rules;
  ends = addition_canon_cases.ends;
  canon = chosen_canon later_above natural_data numbered summed sorted_sides addition_cases.rules addition_canon_cases.confluent
      summed_chosen;
}
