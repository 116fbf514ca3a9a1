-- Laws of rewriting: a chain has a length, and rewriting at a path is rewriting by recursion on the term.
use Rattle.std.specs.Prelude.{◌↔◌, ℕ, List}
use Rattle.lotos_base.specs.Term.{Term}
use Rattle.rewriting_theory.specs.Rule.{Rule}
use Rattle.rewriting_theory.specs.Reduction.{Chain, Reaches}
use Rattle.rewriting_theory.specs.Rewriting.{Rewrites}
use Rattle.rewriting_theory.specs.Step.{Step}

-- one term rewrites to another one exactly where there is a chain of some length
abbrev pub ReachedByChains : Type 0
ReachedByChains = (rules : List Rule) (t u : Term)
    → Reaches (Rewrites rules) t u ↔ ((n : ℕ) × Chain (Rewrites rules) n t u)

-- a link at a path is a step at the root of a subterm, and the other way round
abbrev pub LinksAreSteps : Type 0
LinksAreSteps = (rules : List Rule) (t u : Term) → Rewrites rules t u ↔ Step rules t u
