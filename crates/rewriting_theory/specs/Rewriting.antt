-- Rewriting: one side of a rule's instance is replaced by the other one, at one path (Baader and Nipkow, 4.2).
use Rattle.std.specs.Prelude.{◌≡◌, ℕ, List, Some}
use Rattle.lotos_base.specs.Term.{Term}
use Rattle.lotos_base.specs.Path.{subterm, put_at}
use Rattle.lotos_base.specs.Substitution.{Substitution, substituted}
use Rattle.rewriting_theory.specs.Rule.{Rule, IsRule}
use Rattle.rewriting_theory.specs.Reduction.{IsIrreducible, IsConfluent, IsLocallyConfluent, EndsFor}

-- One link: at the path of the first term stands an instance of a rule's left side, and with that instance of the
-- right side there it is the second term. Variables are allowed in both.
pub record Rewrites (rules : List Rule) (from to : Term) : Type 0 where
  pub path : List ℕ
  pub rule : Rule
  pub is_rule : IsRule rules rule
  pub values : Substitution
  pub old : subterm path from ≡ Some (substituted values rule.left)
  pub new : put_at path (substituted values rule.right) from ≡ Some to

-- No rule can be used anywhere in the term.
abbrev pub IsNormal : List Rule → Term → Type 0
IsNormal rules t = IsIrreducible (Rewrites rules) t

-- Rewriting ends: for every term there is a number of links that no chain from it exceeds.
abbrev pub Terminates : List Rule → Type 0
Terminates rules = (t : Term) → EndsFor (Rewrites rules) t

-- Any two terms that one term rewrites to, in any number of links, both rewrite to one term.
abbrev pub AreConfluent : List Rule → Type 0
AreConfluent rules = IsConfluent (Rewrites rules)

-- Any two terms that one term rewrites to in one link each both rewrite to one term.
abbrev pub AreLocallyConfluent : List Rule → Type 0
AreLocallyConfluent rules = IsLocallyConfluent (Rewrites rules)
