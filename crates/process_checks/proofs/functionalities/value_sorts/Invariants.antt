use Rattle.std.proofs.Common.{◌≡◌, ◌++◌, map, drop}
use Rattle.process_checks.specs.Functionality.{value_sort}
use Rattle.process_checks.proofs.functionalities.value_sorts.Given as goal

abbrev pub invariant-loop-value : goal.invariant-loop-value
invariant-loop-value l = l.made.items ++ map value_sort (drop l.value-index l.value-items) ≡ map value_sort l.value-items
