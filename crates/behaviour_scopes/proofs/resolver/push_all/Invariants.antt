use Rattle.std.proofs.Common.{◌≡◌, ◌++◌, map, take}
use Rattle.sort_terms.specs.EquationView.{variable_of}
use Rattle.scope_parts.specs.VisibleView.{visible_in}
use Rattle.behaviour_scopes.proofs.resolver.push_all.Given as goal

abbrev pub invariant-loop-variable : goal.invariant-loop-variable
invariant-loop-variable l =
    visible_in l.visible ≡ visible_in l.initial.visible ++ take l.variable-index (map variable_of l.variable-items)
