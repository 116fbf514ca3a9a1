-- Termination: no chain of rewriting from a term exceeds some number, with or without steps into arguments between.
use Rattle.std.specs.Prelude.{◌≡◌, ◌⊎◌, ℕ, List, Some}
use Rattle.lotos_base.specs.Term.{Term, variable, node}
use Rattle.lotos_base.specs.Path.{argument_at}
use Rattle.lotos_base.specs.Equation.{Data}
use Rattle.rewriting_theory.specs.Rule.{Rule}
use Rattle.rewriting_theory.specs.Reduction.{EndsFor}
use Rattle.rewriting_theory.specs.Rewriting.{Rewrites, Terminates}
use Rattle.rewriting_theory.specs.Precedence.{Precedence}
use Rattle.rewriting_theory.specs.Orientation.{AreOriented, NumberedRule, rules_of, IsOrientation}

-- The second term is an argument of the first one.
abbrev pub IsArgument : Term → Term → Type 0
IsArgument (variable n s) u = ⊥
IsArgument (node f ts) u = (k : ℕ) × (argument_at k ts ≡ Some u)

-- One link of rewriting, or one step into an argument, as a program that puts terms in normal form takes them.
abbrev pub Descends : List Rule → Term → Term → Type 0
Descends rules t u = Rewrites rules t u ⊎ IsArgument t u

-- for every term there is a number of links that no chain of rewriting from it exceeds, whatever the precedence
-- that orients the rules
abbrev pub RewritingEnds : Type 0
RewritingEnds = (precedence : Precedence) (rules : List Rule) → AreOriented precedence rules → Terminates rules

-- and one that no chain of links and steps into arguments exceeds
abbrev pub DescentEnds : Type 0
DescentEnds = (precedence : Precedence) (rules : List Rule) (t : Term) → AreOriented precedence rules
    → EndsFor (Descends rules) t

-- so it is with the rules of data
abbrev pub RewritingByDataEnds : Type 0
RewritingByDataEnds = (precedence : Precedence) (data_ : Data) (rules : List NumberedRule)
    → IsOrientation precedence data_ rules
    → Terminates (rules_of rules) × ((t : Term) → EndsFor (Descends (rules_of rules)) t)
