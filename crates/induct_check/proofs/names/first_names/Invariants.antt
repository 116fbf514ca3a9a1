use Rattle.std.proofs.Common.{◌≡◌, ◌++◌, drop, map}
use Rattle.lotos_base.specs.Equation.{Variable}
use Rattle.lotos_base.specs.Name.{spelling}
use Rattle.sort_terms.specs.EquationView.{variable_of}
use Rattle.induct_check.proofs.names.first_names.Given as goal

abbrev pub invariant-loop-variable : goal.invariant-loop-variable
invariant-loop-variable l = record {
  names : map spelling l.names.items ++ map (λ (v : Variable). v.name) (map variable_of (drop l.variable-index l.variables))
      ≡ map (λ (v : Variable). v.name) (map variable_of l.variables);
  sorts : l.sorts.items ++ map (λ (v : Variable). v.sort) (map variable_of (drop l.variable-index l.variables))
      ≡ map (λ (v : Variable). v.sort) (map variable_of l.variables);
}
