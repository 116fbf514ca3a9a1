use Rattle.std.proofs.Common.{◌≡◌, map, length}
use Rattle.std.specs.Prelude.{Some}
use Rattle.syntax_trees.specs.Grouping.{leftmost_grouping}
use Rattle.syntax_trees.specs.Waiting.{StrengthRises, grouped_onto}
use Rattle.syntax_trees.proofs.grouping.group_operands.Given as goal

-- the operands and signs that are left, put in front of what is grouped so far, are the whole list
abbrev pub invariant-loop-sign : goal.invariant-loop-sign
invariant-loop-sign g l =
    (length l.operands.items ≡ length l.signs.items)
    × (leftmost_grouping g.O.Operand.binds g.O.Operand.joined (map g.O.Operand.plain l.fn.operands.items)
    (map g.O.Operand.plain_sign l.fn.signs.items)
    ≡ Some (grouped_onto g.O.Operand.binds g.O.Operand.joined (map g.O.Operand.plain l.operands.items)
    (map g.O.Operand.plain_sign l.signs.items)
    (record {
      first = g.O.Operand.plain l.tree;
      waiting = map (λ w. (g.O.Operand.plain_sign w.0, g.O.Operand.plain w.1)) l.waiting.items;
    })))
    × StrengthRises (λ w. g.O.Operand.binds (g.O.Operand.plain_sign w.0)) l.waiting.items

-- the signs that are left
abbrev pub decreases-loop-sign : goal.decreases-loop-sign
decreases-loop-sign g l = length l.signs.items
