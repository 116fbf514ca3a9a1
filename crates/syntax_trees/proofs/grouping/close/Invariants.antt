use Rattle.syntax_trees.specs.Waiting.{Takes}
use Rattle.syntax_trees.proofs.grouping.close.Given as goal

-- what was taken so far is the tree so far
abbrev pub invariant-loop-last : goal.invariant-loop-last
invariant-loop-last g l =
    Takes (λ w. g.O.Operand.binds (g.O.Operand.plain_sign w.0)) (λ w. (g.O.Operand.plain_sign w.0, g.O.Operand.plain w.1))
    g.O.Operand.joined
    l.fn.strength l.initial.waiting.items l.waiting.items (g.O.Operand.plain l.initial.tree) (g.O.Operand.plain l.tree)

abbrev pub decreases-loop-last : goal.decreases-loop-last
decreases-loop-last g l = goal.left-loop-last g l
