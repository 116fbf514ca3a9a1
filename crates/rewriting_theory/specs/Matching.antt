-- Matching: which rule fits a term at its root, and which one is the first.
use Rattle.std.specs.Prelude.{◌≡◌, ◌<◌, ℕ, List}
use Rattle.lotos_base.specs.Term.{Term}
use Rattle.lotos_base.specs.Substitution.{Substitution, substituted}
use Rattle.rewriting_theory.specs.Rule.{Rule, IsRule, IsRuleAt}
use Rattle.rewriting_theory.specs.Step.{IsRootStep}

-- The pattern matches the term: some substitution makes it the term.
abbrev pub Matches : Term → Term → Type 0
Matches pattern t = (values : Substitution) × (substituted values pattern ≡ t)

-- The left side of no rule matches the term.
abbrev pub NoMatch : List Rule → Term → Type 0
NoMatch rules t = (rule : Rule) → IsRule rules rule → ¬ Matches rule.left t

-- The first rule whose left side matches the first term makes the second one of it, at its root.
pub record FirstStep (rules : List Rule) (from to : Term) : Type 0 where
  pub number : ℕ
  pub rule : Rule
  pub is_rule : IsRuleAt rules number rule
  pub step : IsRootStep rule from to
  pub is_first : (k : ℕ) (earlier : Rule) → k < number → IsRuleAt rules k earlier → ¬ Matches earlier.left from
