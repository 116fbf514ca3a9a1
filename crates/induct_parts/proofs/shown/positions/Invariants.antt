use Rattle.std.proofs.Common.{◌≡◌, ◌++◌, drop}
use Rattle.term_match.specs.Appearance.{counted}
use Rattle.induct_parts.proofs.shown.positions.Given as goal

abbrev pub invariant-loop-i : goal.invariant-loop-i
invariant-loop-i l = l.made.items ++ counted l.i (drop l.i l.seen) ≡ counted 0 l.seen
