use Rattle.tree_building.proofs.Outcomes.{all_have_one_outcome}
use Rattle.tree_building.proofs.reading_laws.texts_have_one_outcome.Goals as goal

pub returns : goal.returns
returns c = all_have_one_outcome
