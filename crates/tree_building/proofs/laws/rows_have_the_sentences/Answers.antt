use Rattle.tree_building.proofs.AllGiven.{rows_have}
use Rattle.tree_building.proofs.laws.rows_have_the_sentences.Goals as goal

pub returns : goal.returns
returns c = rows_have
