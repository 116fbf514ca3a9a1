use Rattle.syntax_trees.specs.Counting.{declared_in}
use Rattle.syntax_trees.proofs.discarding.discard.Given as goal

abbrev pub decreases-loop-last : goal.decreases-loop-last
decreases-loop-last l = declared_in l.left.items
