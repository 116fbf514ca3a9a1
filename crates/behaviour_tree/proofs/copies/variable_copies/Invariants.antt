use Rattle.std.proofs.Common.{◌≡◌, ◌++◌, map, drop}
use Rattle.sort_terms.specs.EquationView.{variable_of}
use Rattle.behaviour_tree.proofs.copies.variable_copies.Given as goal

abbrev pub invariant-loop-variable : goal.invariant-loop-variable
invariant-loop-variable l =
    map variable_of l.made.items ++ map variable_of (drop l.variable-index l.variable-items) ≡ map variable_of l.variable-items
