use Rattle.tree_building.proofs.Unique.{unambiguous}
use Rattle.tree_building.proofs.laws.texts_are_unambiguous.Goals as goal

pub returns : goal.returns
returns c = unambiguous
