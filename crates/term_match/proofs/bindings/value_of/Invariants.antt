use Rattle.std.proofs.Common.{◌≡◌, drop}
use Rattle.term_match.specs.FoundView.{found_pairs}
use Rattle.term_match.specs.Search.{looked_up}
use Rattle.term_match.proofs.bindings.value_of.Given as goal

abbrev pub invariant-loop-known : goal.invariant-loop-known
invariant-loop-known l = looked_up l.number (found_pairs l.found) ≡ looked_up l.number (found_pairs (drop l.known-index l.found))
