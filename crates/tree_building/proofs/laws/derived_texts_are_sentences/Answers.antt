use Rattle.tree_building.proofs.AllRows.{derived_texts}
use Rattle.tree_building.proofs.laws.derived_texts_are_sentences.Goals as goal

pub returns : goal.returns
returns c = derived_texts
