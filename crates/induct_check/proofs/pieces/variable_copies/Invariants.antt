use Rattle.std.proofs.Common.{◌≡◌, ◌++◌, drop, map}
use Rattle.sort_terms.specs.EquationView.{variable_of}
use Rattle.induct_check.proofs.pieces.variable_copies.Given as goal

abbrev pub invariant-loop-variable : goal.invariant-loop-variable
invariant-loop-variable l = map variable_of l.made.items ++ map variable_of (drop l.variable-index l.variables)
    ≡ map variable_of l.variables
