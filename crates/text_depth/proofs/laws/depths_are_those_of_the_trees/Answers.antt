use Rattle.text_depth.proofs.FoldedDepths.{depths_hold}
use Rattle.text_depth.proofs.laws.depths_are_those_of_the_trees.Goals as goal

pub returns : goal.returns
returns c = depths_hold
