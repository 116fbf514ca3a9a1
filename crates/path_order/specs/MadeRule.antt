-- Rules made of two sides.
use Rattle.std.specs.Prelude.{ℕ}
use Rattle.lotos_base.specs.Term.{Term}
use Rattle.sort_terms.specs.ProfiledTerm.{ProfiledTerm}
use Rattle.rewriting_theory.specs.Orientation.{NumberedRule}
use Rattle.path_order.specs.RuleSides.{Sides}

-- the rule with these sides, from the equation with this number
abbrev pub numbered_rule : ℕ → Term → Term → NumberedRule
numbered_rule n l r = record { equation = n; rule = record { left = l; right = r } }

-- these sides
abbrev pub sides : ProfiledTerm → ProfiledTerm → Sides
sides l r = record { left = l; right = r }
