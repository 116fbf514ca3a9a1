use Rattle.std.proofs.Common.{◌≡◌, drop}
use Rattle.sort_terms.specs.WellFormedTest.{all_below}
use Rattle.sort_terms.proofs.checking.are_below.Given as goal

abbrev pub invariant-loop-number : goal.invariant-loop-number
invariant-loop-number l = all_below l.bound l.number-items ≡ all_below l.bound (drop l.number-index l.number-items)
