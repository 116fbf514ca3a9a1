-- Functions that give every term a normal form (Baader and Nipkow, 2.1).
use Rattle.std.specs.Prelude.{List}
use Rattle.lotos_base.specs.Term.{Term}
use Rattle.rewriting_theory.specs.Rule.{Rule}
use Rattle.rewriting_theory.specs.Reduction.{Reaches}
use Rattle.rewriting_theory.specs.Rewriting.{Rewrites, IsNormal}

-- The function gives each term an irreducible term that it rewrites to.
pub record Normalises (rules : List Rule) (canon : Term → Term) : Type 0 where
  pub reached : (t : Term) → Reaches (Rewrites rules) t (canon t)
  pub irreducible : (t : Term) → IsNormal rules (canon t)
