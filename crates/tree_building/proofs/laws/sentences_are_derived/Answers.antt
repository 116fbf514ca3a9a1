use Rattle.tree_building.proofs.DefinitionsCases.{all_sentences_derived}
use Rattle.tree_building.proofs.laws.sentences_are_derived.Goals as goal

pub returns : goal.returns
returns c = all_sentences_derived
