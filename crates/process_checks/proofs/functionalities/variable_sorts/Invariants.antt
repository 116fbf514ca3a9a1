use Rattle.std.proofs.Common.{◌≡◌, ◌++◌, map, drop}
use Rattle.process_checks.specs.Functionality.{variable_sort}
use Rattle.process_checks.proofs.functionalities.variable_sorts.Given as goal

abbrev pub invariant-loop-variable : goal.invariant-loop-variable
invariant-loop-variable l =
    l.made.items ++ map variable_sort (drop l.variable-index l.variable-items) ≡ map variable_sort l.variable-items
