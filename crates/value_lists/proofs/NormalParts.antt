-- A term is irreducible exactly where no rule matches it at the root and its arguments are irreducible.
use Rattle.std.proofs.Common.{◌≡◌, ℕ, List, true, false, refl, subst, inl, inr}
use Rattle.std.specs.Prelude.{◌⊎◌}
use Rattle.lotos_base.specs.Term.{Term, variable, node, Terms, no_terms, term_then}
use Rattle.lotos_base.specs.Substitution.{substituted}
use Rattle.rewriting_theory.specs.Rule.{Rule}
use Rattle.rewriting_theory.specs.Matching.{NoMatch, FirstStep}
use Rattle.rewriting_theory.specs.Reduction.{Reaches, reached_already, reached_after}
use Rattle.rewriting_theory.specs.Rewriting.{Rewrites, IsNormal}
use Rattle.rewriting_theory.specs.Step.{Step, at_root, in_arguments, StepAmong, here, there}
use Rattle.rewriting_theory.proofs.MatchLemmas.{decide_first, first_matches}
use Rattle.rewriting_theory.proofs.PlaceLemmas.{step_of_link, link_of_step}
use Rattle.value_lists.specs.RootTest.{is_second, no_rule_matches}

-- Each of the terms is irreducible.
abbrev pub AreNormal : List Rule → Terms → Type 0
AreNormal rules no_terms = Unit {0}
AreNormal rules (term_then t ts) = IsNormal rules t × AreNormal rules ts

pub normal_root : (rules : List Rule) (t : Term) → IsNormal rules t → NoMatch rules t
normal_root rules t normal rule is matched =
    normal (substituted matched.0 rule.right)
    (link_of_step (at_root (record {
      rule = rule;
      is_rule = is;
      step = record { values = matched.0; old = matched.1; new = refl };
    })))

none_steps : (rules : List Rule) (ts : Terms) → ((us : Terms) → StepAmong rules ts us → ⊥) → AreNormal rules ts
none_steps rules no_terms never = tt
none_steps rules (term_then t ts) never = (
  λ u link. never (term_then u ts) (here (step_of_link link)),
  none_steps rules ts (λ us step. never (term_then t us) (there step)),
)

pub normal_arguments : (rules : List Rule) (f : ℕ) (ts : Terms) → IsNormal rules (node f ts) → AreNormal rules ts
normal_arguments rules f ts normal = none_steps rules ts (λ us step. normal (node f us) (link_of_step (in_arguments step)))

no_step_among : {rules : List Rule} {ts us : Terms} → AreNormal rules ts → StepAmong rules ts us → ⊥
no_step_among normal (here {u = u} step) = normal.0 u (link_of_step step)
no_step_among normal (there step) = no_step_among normal.1 step

no_step : {rules : List Rule} {t u : Term} → NoMatch rules t → ((f : ℕ) (ts : Terms) → t ≡ node f ts → AreNormal rules ts)
    → Step rules t u → ⊥
no_step none normal (at_root step) = none step.rule step.is_rule (step.step.values, step.step.old)
no_step none normal (in_arguments {f = f} {ts = ts} step) = no_step_among (normal f ts refl) step

pub normal_node : (rules : List Rule) (f : ℕ) (ts : Terms) → NoMatch rules (node f ts) → AreNormal rules ts
    → IsNormal rules (node f ts)
normal_node rules f ts none normal u link =
    no_step none
    (λ g us e. let same : ts ≡ us = cc in subst (λ (vs : Terms). AreNormal rules vs) same normal)
    (step_of_link link)

-- what an irreducible term rewrites to is that term
pub stays : {rules : List Rule} {t u : Term} → IsNormal rules t → Reaches (Rewrites rules) t u → u ≡ t
stays normal reached_already = refl
stays normal (reached_after {u = u} link rest) = absurd (normal u link)

-- ---- the test of the root

pub test_sound : (rules : List Rule) (t : Term) → no_rule_matches rules t ≡ true → NoMatch rules t
test_sound rules t h = go (decide_first rules t) h
  where
    go : (decided : ((u : Term) × FirstStep rules t u) ⊎ NoMatch rules t) → is_second decided ≡ true → NoMatch rules t
    go (inl first) e = absurd (cc e)
    go (inr none) e = none

pub test_complete : (rules : List Rule) (t : Term) → NoMatch rules t → no_rule_matches rules t ≡ true
test_complete rules t none = go (decide_first rules t)
  where
    go : (decided : ((u : Term) × FirstStep rules t u) ⊎ NoMatch rules t) → is_second decided ≡ true
    go (inl first) = absurd (first_matches first.1 none)
    go (inr nothing) = refl

pub test_fails : (rules : List Rule) (t : Term) → (NoMatch rules t → ⊥) → no_rule_matches rules t ≡ false
test_fails rules t some = go (decide_first rules t)
  where
    go : (decided : ((u : Term) × FirstStep rules t u) ⊎ NoMatch rules t) → is_second decided ≡ false
    go (inl first) = refl
    go (inr none) = absurd (some none)
