use Rattle.std.proofs.Common.{◌≡◌, ◌++◌, reverse, length}
use Rattle.induct_parts.proofs.piles.pile.Given as goal

abbrev pub invariant-loop-part : goal.invariant-loop-part
invariant-loop-part g l = l.parts.items ++ reverse l.left.items ≡ l.initial.parts.items ++ reverse l.initial.left.items

abbrev pub decreases-loop-part : goal.decreases-loop-part
decreases-loop-part g l = length l.parts.items
