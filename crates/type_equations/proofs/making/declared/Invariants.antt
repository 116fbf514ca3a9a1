use Rattle.std.proofs.Common.{◌≡◌, ◌++◌, map, drop}
use Rattle.sort_terms.specs.EquationView.{variable_of}
use Rattle.type_definitions.specs.DeclaredEquations.{declared_from}
use Rattle.type_equations.proofs.making.declared.Given as goal

abbrev pub invariant-loop-number : goal.invariant-loop-number
invariant-loop-number l =
    map variable_of l.made.items ++ declared_from (map variable_of l.scope) l.number (drop l.number l.order.keys)
    ≡ declared_from (map variable_of l.scope) 0 l.order.keys
