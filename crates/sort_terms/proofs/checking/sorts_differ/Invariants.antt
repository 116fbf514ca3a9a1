use Rattle.std.proofs.Common.{◌≡◌, map, drop}
use Rattle.sort_terms.specs.Operations.{sort_of}
use Rattle.sort_terms.specs.WellFormedTest.{all_differ, are_one_sort}
use Rattle.sort_terms.proofs.checking.sorts_differ.Given as goal

abbrev pub invariant-loop-i : goal.invariant-loop-i
invariant-loop-i l = all_differ are_one_sort (map sort_of l.sorts) ≡ all_differ are_one_sort (map sort_of (drop l.i l.sorts))
