use Rattle.std.proofs.Common.{◌≡◌, ◌++◌, map, drop}
use Rattle.behaviour_semantics.specs.Behaviour.{let_variables}
use Rattle.behaviour_tree.specs.BehaviourView.{let_of}
use Rattle.sort_terms.specs.EquationView.{variable_of}
use Rattle.behaviour_scopes.proofs.bound_variables.let_bound.Given as goal

abbrev pub invariant-loop-variable : goal.invariant-loop-variable
invariant-loop-variable l =
    map variable_of l.made.items ++ let_variables (map let_of (drop l.variable-index l.variable-items))
    ≡ let_variables (map let_of l.variable-items)
