use Rattle.std.proofs.Common.{◌≡◌, List}
use Rattle.syntax_trees.proofs.Closing.{takes_nothing, takes_more}
use Rattle.syntax_trees.proofs.grouping.close.Goals as goal

pub loop-last-init : goal.loop-last-init
loop-last-init g c =
    takes_nothing (λ w. g.O.Operand.binds (g.O.Operand.plain_sign w.0))
    (λ w. (g.O.Operand.plain_sign w.0, g.O.Operand.plain w.1)) g.O.Operand.joined
    c.args.strength c.args.waiting.now.items (g.O.Operand.plain c.args.tree)

pub loop-last-preserved : goal.loop-last-preserved
loop-last-preserved g c =
    takes_more (λ w. g.O.Operand.binds (g.O.Operand.plain_sign w.0)) (λ w. (g.O.Operand.plain_sign w.0, g.O.Operand.plain w.1))
    g.O.Operand.joined
    c.args.strength c.args.waiting.now.items c.loop-last.waiting.items c.take_no_weaker.new.waiting.items c.in-Some.last
    (g.O.Operand.plain c.args.tree) (g.O.Operand.plain c.loop-last.tree) (g.O.Operand.plain c.in_ok-tree.tree)
    c.loop-last.invariant c.in-Some.ensures.0 c.in-Some.ensures.1 c.in_ok-tree.ensures
