use Rattle.std.proofs.Common.{◌≡◌, ◌+◌}
use Rattle.syntax_trees.specs.Counting.{declarations_by, declared_in}
use Rattle.syntax_trees.proofs.discarding.opened.Given as goal

abbrev pub invariant-loop-first : goal.invariant-loop-first
invariant-loop-first l = declarations_by l.first + declared_in l.others.items ≡ declarations_by l.fn.first + declared_in l.fn.others.items

abbrev pub decreases-loop-first : goal.decreases-loop-first
decreases-loop-first l = declarations_by l.first
