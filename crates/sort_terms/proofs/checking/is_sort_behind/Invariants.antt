use Rattle.std.proofs.Common.{◌≡◌, map, drop}
use Rattle.std.specs.List.{list_any}
use Rattle.sort_terms.specs.Operations.{sort_of}
use Rattle.sort_terms.specs.WellFormedTest.{are_one_sort}
use Rattle.sort_terms.proofs.checking.is_sort_behind.Given as goal

abbrev pub invariant-loop-i : goal.invariant-loop-i
invariant-loop-i l = list_any (are_one_sort (sort_of l.sort)) (map sort_of (drop l.from l.sorts)) ≡ list_any (are_one_sort (sort_of l.sort))
    (map sort_of (drop l.i l.sorts))
