use Rattle.std.proofs.Common.{arith}
use Rattle.std.proofs.lemmas.Grind.{common_steps}
use Rattle.syntax_trees.proofs.GroupingSteps.{begin, further, finish_ok}
use Rattle.syntax_trees.proofs.grouping.group_operands.Goals as goal

pub loop-sign-init : goal.loop-sign-init
loop-sign-init g c =
    begin g.O.Operand.binds g.O.Operand.joined g.O.Operand.plain g.O.Operand.plain_sign
    c.args.operands.items c.pop.new.self.items c.args.signs.items c.in-Some.tree c.new-waiting.result.items
    c.requires c.in-Some.ensures.items c.new-waiting.ensures.items

pub loop-sign-preserved : goal.loop-sign-preserved
loop-sign-preserved g c =
    further g.O.Operand.binds g.O.Operand.joined g.O.Operand.plain g.O.Operand.plain_sign
    c.args.operands.items c.args.signs.items c.loop-sign.operands.items c.pop-in-Some-pop.new.self.items
    c.loop-sign.signs.items c.pop-in-loop-sign.new.self.items c.in-Some-pop-2.left c.loop-sign.tree c.in_ok-right.right c.in-Some-pop.sign
    c.loop-sign.waiting.items c.close.new.waiting.items c.push.new.self.items c.strength-strength.result
    c.loop-sign.invariant c.in-Some-pop-2.ensures.items c.in-Some-pop.ensures.items c.strength-strength.ensures
    c.in_ok-right.ensures.tree c.in_ok-right.ensures.rest c.in_ok-push.ensures.items

pub returns : goal.returns
returns g c =
    finish_ok g.O.Operand.binds g.O.Operand.joined g.O.Operand.plain g.O.Operand.plain_sign
    c.args.operands.items c.args.signs.items c.loop-sign.operands.items c.loop-sign.signs.items c.loop-sign.tree
    c.loop-sign.waiting.items c.close-2.new.waiting.items c.close-2.result
    c.loop-sign.invariant (grind (arith, common_steps, c.in_default-pop.ensures, c.in_default-pop.is)) c.close-2.ensures.tree
    c.close-2.ensures.rest
