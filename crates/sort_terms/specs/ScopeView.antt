-- The variables in a scope.
use Rattle.std.specs.Prelude.{List, map}
use Rattle.lotos_base.specs.Equation.{Variable}
use Rattle.sort_terms.specs.EquationView.{variable_of}
use Rattle.sort_terms.specs.declared.scope.Scope.{Scope}

-- the variables in order
abbrev pub variables_in : Scope → List Variable
variables_in scope = map variable_of scope.variables.items
