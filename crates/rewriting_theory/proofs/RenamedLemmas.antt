-- Rewriting and chosen forms of renamed terms.
use Rattle.std.proofs.Common.{◌≡◌, ℕ, List, ap, sym, ◌∙◌, subst, inl, inr}
use Rattle.lotos_base.specs.Term.{Term, variable, node, Terms}
use Rattle.lotos_base.specs.Sorting.{Occurs, OccursAmong}
use Rattle.lotos_base.specs.Substitution.{Substitution, substituted, all_substituted, renaming, followed_by}
use Rattle.lotos_base.specs.Canon.{KeepsApart}
use Rattle.lotos_base.proofs.SubstitutionLemmas.{substituted_twice, substituted_agree, substituted_variables, substituted_occurs, occurs_substituted}
use Rattle.rewriting_theory.specs.Rule.{Rule, AreWellFormedRules}
use Rattle.rewriting_theory.specs.Step.{IsRootStep, Step}
use Rattle.rewriting_theory.specs.Matching.{Matches, FirstStep}
use Rattle.rewriting_theory.specs.ChosenForm.{Chosen, chosen_variable, chosen_done, chosen_next, AllChosen, all_chosen, chosen_then}
use Rattle.rewriting_theory.proofs.StepLemmas.{step_substituted}
use Rattle.rewriting_theory.proofs.OverlapLemmas.{combined, combined_second, combined_renamed}
use Rattle.rewriting_theory.proofs.SortedSteps.{step_occurs}

-- ---- a renaming undone

abbrev pub undoing : (ℕ → ℕ → ℕ) → Term → Substitution
undoing number t = combined number t variable variable

pub undone : (number : ℕ → ℕ → ℕ) (t u : Term) → KeepsApart number t → ((n s : ℕ) → Occurs n s u → Occurs n s t)
    → substituted (undoing number t) (substituted (renaming number) u) ≡ u
undone number t u keeps occurring = combined_renamed number t u variable variable keeps occurring ∙ substituted_variables u

-- undone and done again, at a variable of the renamed term
done_variable : (number : ℕ → ℕ → ℕ) (t : Term) → KeepsApart number t → (n s : ℕ)
    → Occurs n s (substituted (renaming number) t)
    → substituted (renaming number) (undoing number t n s) ≡ variable n s
done_variable number t keeps n s o =
    let from = substituted_occurs n s (renaming number) t o in
    let here = combined_second number t variable variable keeps from.number from.sort from.occurs in
    let same : undoing number t n s ≡ variable from.number from.sort =
    (λ i. undoing number t (sym from.inside.0 i) (sym from.inside.1 i)) ∙ here in
    ap (substituted (renaming number)) same ∙ (λ i. variable (from.inside.0 i) (from.inside.1 i))

done : (number : ℕ → ℕ → ℕ) (t v : Term) → KeepsApart number t
    → ((n s : ℕ) → Occurs n s v → Occurs n s (substituted (renaming number) t))
    → substituted (renaming number) (substituted (undoing number t) v) ≡ v
done number t v keeps occurring =
    substituted_twice (undoing number t) (renaming number) v
    ∙ substituted_agree (followed_by (undoing number t) (renaming number)) variable v
    (λ n s o. done_variable number t keeps n s (occurring n s o))
    ∙ substituted_variables v

-- ---- steps

-- A step of the term whose renaming is a given one.
pub record StepBefore (rules : List Rule) (number : ℕ → ℕ → ℕ) (t v : Term) : Type 0 where
  pub after : Term
  pub step : Step rules t after
  pub is_renamed : substituted (renaming number) after ≡ v

pub step_before : {rules : List Rule} (number : ℕ → ℕ → ℕ) (t v : Term) → AreWellFormedRules rules → KeepsApart number t
    → Step rules (substituted (renaming number) t) v → StepBefore rules number t v
step_before {rules = rules} number t v fine keeps step = record {
  after = substituted (undoing number t) v;
  step = subst (λ (w : Term). Step rules w (substituted (undoing number t) v)) (undone number t t keeps (λ n s o. o))
      (step_substituted (undoing number t) step);
  is_renamed = done number t v keeps (λ n s o. step_occurs fine n s step o);
}

-- ---- chosen forms

root_occurs : (rule : Rule) → ((n s : ℕ) → Occurs n s rule.right → Occurs n s rule.left) → (t u : Term) (n s : ℕ)
    → IsRootStep rule t u → Occurs n s u → Occurs n s t
root_occurs rule occurring t u n s step o =
    let from = substituted_occurs n s step.values rule.right (subst (λ (w : Term). Occurs n s w) (sym step.new) o) in
    subst (λ (w : Term). Occurs n s w) step.old
    (occurs_substituted n s from.number from.sort step.values rule.left (occurring from.number from.sort from.occurs) from.inside)

first_occurs : {rules : List Rule} → AreWellFormedRules rules → {t u : Term} (n s : ℕ) → FirstStep rules t u → Occurs n s u
    → Occurs n s t
first_occurs fine {t = t} {u = u} n s first o =
    root_occurs first.rule (fine first.rule (first.number, first.is_rule)).occurring t u n s first.step o

mutual
  -- a chosen form has no other variables than its term
  pub chosen_occurs : {rules : List Rule} → AreWellFormedRules rules → {t u : Term} (n s : ℕ) → Chosen rules t u → Occurs n s u
      → Occurs n s t
  chosen_occurs fine n s chosen_variable o = o
  chosen_occurs fine n s (chosen_done all none) o = all_chosen_occurs fine n s all o
  chosen_occurs fine n s (chosen_next all first rest) o =
      all_chosen_occurs fine n s all (first_occurs fine n s first (chosen_occurs fine n s rest o))

  all_chosen_occurs : {rules : List Rule} → AreWellFormedRules rules → {ts us : Terms} (n s : ℕ) → AllChosen rules ts us
      → OccursAmong n s us → OccursAmong n s ts
  all_chosen_occurs fine n s all_chosen o = o
  all_chosen_occurs fine n s (chosen_then one all) (inl o) = inl (chosen_occurs fine n s one o)
  all_chosen_occurs fine n s (chosen_then one all) (inr o) = inr (all_chosen_occurs fine n s all o)

-- a pattern that matches the renamed term matches the term
match_back : (number : ℕ → ℕ → ℕ) (whole l w : Term) → KeepsApart number whole
    → ((n s : ℕ) → Occurs n s w → Occurs n s whole) → Matches l (substituted (renaming number) w) → Matches l w
match_back number whole l w keeps occurring match = (
  followed_by match.0 (undoing number whole),
  sym (substituted_twice match.0 (undoing number whole) l) ∙ ap (substituted (undoing number whole)) match.1
      ∙ undone number whole w keeps occurring,
)

first_renamed : {rules : List Rule} (number : ℕ → ℕ → ℕ) (whole t u : Term) → KeepsApart number whole
    → ((n s : ℕ) → Occurs n s t → Occurs n s whole) → FirstStep rules t u
    → FirstStep rules (substituted (renaming number) t) (substituted (renaming number) u)
first_renamed number whole t u keeps occurring first = record {
  number = first.number;
  rule = first.rule;
  is_rule = first.is_rule;
  step = record {
    values = followed_by first.step.values (renaming number);
    old = sym (substituted_twice first.step.values (renaming number) first.rule.left) ∙ ap (substituted (renaming number)) first.step.old;
    new = sym (substituted_twice first.step.values (renaming number) first.rule.right)
        ∙ ap (substituted (renaming number)) first.step.new;
  };
  is_first = λ k earlier before is match. first.is_first k earlier before is
      (match_back number whole earlier.left t keeps occurring match);
}

mutual
  pub chosen_renamed : {rules : List Rule} → AreWellFormedRules rules → (number : ℕ → ℕ → ℕ) (whole : Term)
      → KeepsApart number whole → {t u : Term} → Chosen rules t u → ((n s : ℕ) → Occurs n s t → Occurs n s whole)
      → Chosen rules (substituted (renaming number) t) (substituted (renaming number) u)
  chosen_renamed fine number whole keeps chosen_variable occurring = chosen_variable
  chosen_renamed fine number whole keeps (chosen_done {f = f} {us = us} all none) occurring =
      chosen_done (all_chosen_renamed fine number whole keeps all occurring)
      (λ rule is match. none rule is (match_back number whole rule.left (node f us) keeps
      (λ n s o. occurring n s (all_chosen_occurs fine n s all o)) match))
  chosen_renamed fine number whole keeps (chosen_next {f = f} {us = us} {t = t} all first rest) occurring =
      let inner = λ (n : ℕ). λ (s : ℕ). λ (o : OccursAmong n s us). occurring n s (all_chosen_occurs fine n s all o) in
      chosen_next (all_chosen_renamed fine number whole keeps all occurring)
      (first_renamed number whole (node f us) t keeps inner first)
      (chosen_renamed fine number whole keeps rest (λ n s o. inner n s (first_occurs fine n s first o)))

  all_chosen_renamed : {rules : List Rule} → AreWellFormedRules rules → (number : ℕ → ℕ → ℕ) (whole : Term)
      → KeepsApart number whole → {ts us : Terms} → AllChosen rules ts us
      → ((n s : ℕ) → OccursAmong n s ts → Occurs n s whole)
      → AllChosen rules (all_substituted (renaming number) ts) (all_substituted (renaming number) us)
  all_chosen_renamed fine number whole keeps all_chosen occurring = all_chosen
  all_chosen_renamed fine number whole keeps (chosen_then one all) occurring =
      chosen_then (chosen_renamed fine number whole keeps one (λ n s o. occurring n s (inl o)))
      (all_chosen_renamed fine number whole keeps all (λ n s o. occurring n s (inr o)))
