-- Rewriting by rules ends, also with steps into arguments between.
use Rattle.std.specs.Prelude.{List}
use Rattle.lotos_base.specs.Term.{Term}
use Rattle.rewriting_theory.specs.Rule.{Rule}
use Rattle.rewriting_theory.specs.Reduction.{EndsFor}
use Rattle.rewriting_theory.specs.Rewriting.{Terminates}
use Rattle.rewriting_theory.specs.Termination.{Descends}

-- For every term there is a number that no chain of rewriting from it exceeds, and one that no chain of rewriting and of
-- steps into arguments exceeds.
abbrev pub RewritingEndsBy : List Rule → Type 0
RewritingEndsBy rules = Terminates rules × ((t : Term) → EndsFor (Descends rules) t)
