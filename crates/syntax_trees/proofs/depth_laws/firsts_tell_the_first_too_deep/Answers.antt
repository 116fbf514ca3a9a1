use Rattle.syntax_trees.proofs.TreeDepths.{tells}
use Rattle.syntax_trees.proofs.depth_laws.firsts_tell_the_first_too_deep.Goals as goal

pub returns : goal.returns
returns c = tells
