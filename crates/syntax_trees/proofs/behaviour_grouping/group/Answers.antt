use Rattle.std.specs.Prelude.{map}
use Rattle.syntax_trees.specs.Strength.{strength_of, joined_by_sign}
use Rattle.syntax_trees.specs.TreeViews.{written_behaviour_of, placed_sign_of}
use Rattle.syntax_trees.proofs.Groupings.{grouped_is}
use Rattle.syntax_trees.proofs.behaviour_grouping.group.Goals as goal

pub returns : goal.returns
returns c =
    let operands = map written_behaviour_of c.args.operands.items in
    let signs = map placed_sign_of c.args.signs.items in
    record {
      computed = c.in_ok-group_operands.ensures;
      split = grouped_is strength_of joined_by_sign operands signs (written_behaviour_of c.in_ok-group_operands.field-0)
          c.in_ok-group_operands.ensures;
    }
