use Rattle.std.proofs.Common.{◌≡◌, ◌++◌, drop}
use Rattle.draft_solving.specs.Variables.{found_sorts}
use Rattle.draft_solving.proofs.variables.sorts_left.Given as goal

abbrev pub invariant-loop-i : goal.invariant-loop-i
invariant-loop-i l = l.made.items ++ found_sorts (drop l.i l.sorts.items) ≡ found_sorts l.sorts.items
