-- Rewriting by recursion on the term, as proofs want it: a step at the root, or a step in one of the arguments.
use Rattle.std.specs.Prelude.{◌≡◌, ℕ, List}
use Rattle.lotos_base.specs.Term.{Term, node, Terms, term_then}
use Rattle.lotos_base.specs.Substitution.{Substitution, substituted}
use Rattle.rewriting_theory.specs.Rule.{Rule, IsRule}

-- The rule makes the second term of the first one, at its root.
pub record IsRootStep (rule : Rule) (from to : Term) : Type 0 where
  pub values : Substitution
  pub old : substituted values rule.left ≡ from
  pub new : substituted values rule.right ≡ to

-- One of the rules does so.
pub record RootStep (rules : List Rule) (from to : Term) : Type 0 where
  pub rule : Rule
  pub is_rule : IsRule rules rule
  pub step : IsRootStep rule from to

mutual
  -- One link from a term to another one.
  pub data Step (rules : List Rule) : Term → Term → Type 0 where
    at_root : {t u : Term} → RootStep rules t u → Step rules t u
    in_arguments : {f : ℕ} {ts us : Terms} → StepAmong rules ts us → Step rules (node f ts) (node f us)

  -- One link in one of the terms of a list.
  pub data StepAmong (rules : List Rule) : Terms → Terms → Type 0 where
    here : {t u : Term} {ts : Terms} → Step rules t u → StepAmong rules (term_then t ts) (term_then u ts)
    there : {t : Term} {ts us : Terms} → StepAmong rules ts us → StepAmong rules (term_then t ts) (term_then t us)
