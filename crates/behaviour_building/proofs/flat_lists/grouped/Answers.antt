use Rattle.std.proofs.Common.{◌∙◌, ℕ, ◌+◌, ap, sym}
use Rattle.syntax_trees.specs.Strength.{strength_of, joined_by_sign}
use Rattle.syntax_trees.specs.TreeViews.{written_behaviour_of, placed_sign_of}
use Rattle.behaviour_building.proofs.NoTree.{no_tree}
use Rattle.behaviour_building.proofs.flat_lists.grouped.Goals as goal

-- there is not one operand more than signs
pub returns-then-len : goal.returns-then-len
returns-then-len c =
    sym
    (no_tree strength_of joined_by_sign written_behaviour_of placed_sign_of c.args.flat.operands.items c.args.flat.signs.items
    (λ even.
    c.if-len.true
    (c.len.ensures ∙ c.args.flat.operands.ok.0 ∙ even ∙ ap (λ (n : ℕ). n + 1) (sym (c.len-2.ensures ∙ c.args.flat.signs.ok.0)))))
