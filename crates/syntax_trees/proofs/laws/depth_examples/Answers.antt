use Rattle.std.proofs.Common.{refl}
use Rattle.syntax_trees.proofs.laws.depth_examples.Goals as goal

pub returns : goal.returns
returns c = record { sum = refl; choice = refl; first = refl; none = refl }
