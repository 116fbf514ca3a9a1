use Rattle.syntax_trees.proofs.DepthGroupings.{firsts_grouped}
use Rattle.syntax_trees.proofs.depth_laws.firsts_are_grouped.Goals as goal

pub returns : goal.returns
returns c = firsts_grouped
