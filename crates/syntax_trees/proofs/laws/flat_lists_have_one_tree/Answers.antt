use Rattle.syntax_trees.specs.Strength.{strength_of, joined_by_sign}
use Rattle.syntax_trees.proofs.Groupings.{grouped_is, is_grouped}
use Rattle.syntax_trees.proofs.laws.flat_lists_have_one_tree.Goals as goal

pub returns : goal.returns
returns c =
    λ operands signs tree. (grouped_is strength_of joined_by_sign operands signs tree, λ is. is_grouped strength_of joined_by_sign is)
