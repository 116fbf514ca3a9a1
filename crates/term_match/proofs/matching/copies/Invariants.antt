use Rattle.std.proofs.Common.{◌≡◌, ◌++◌, drop}
use Rattle.term_match.specs.FoundView.{found_pairs}
use Rattle.term_match.specs.SubstView.{profiled_pairs}
use Rattle.term_match.proofs.matching.copies.Given as goal

abbrev pub invariant-loop-number : goal.invariant-loop-number
invariant-loop-number l = profiled_pairs l.made.items ++ found_pairs (drop l.number-index l.found) ≡ found_pairs l.found
