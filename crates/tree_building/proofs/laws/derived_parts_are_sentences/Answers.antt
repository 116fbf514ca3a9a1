use Rattle.tree_building.proofs.AllRows.{derived_means}
use Rattle.tree_building.proofs.laws.derived_parts_are_sentences.Goals as goal

pub returns : goal.returns
returns c = derived_means
