use Rattle.std.proofs.Common.{◌≡◌, ◌+◌, ◌++◌, drop, map}
use Rattle.sort_terms.specs.TermView.{profiled_of}
use Rattle.induct_parts.specs.Variables.{variable_list}
use Rattle.induct_parts.proofs.operations.variables.Given as goal

abbrev pub invariant-loop-i : goal.invariant-loop-i
invariant-loop-i l =
    map profiled_of l.made.items ++ variable_list (l.next + l.i) (drop l.i l.sorts) ≡ variable_list l.next l.sorts
