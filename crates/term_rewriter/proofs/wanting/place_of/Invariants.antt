use Rattle.std.proofs.Common.{◌≡◌, drop}
use Rattle.term_match.specs.Search.{looked_up}
use Rattle.term_rewriter.specs.Taken.{owned_pairs}
use Rattle.term_rewriter.proofs.wanting.place_of.Given as goal

abbrev pub invariant-loop-i : goal.invariant-loop-i
invariant-loop-i l = looked_up l.number (owned_pairs l.values) ≡ looked_up l.number (owned_pairs (drop l.i l.values))
