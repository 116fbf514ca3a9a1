use Rattle.session_laws.proofs.TakenLemmas.{flat_trees_stay}
use Rattle.session_laws.proofs.sentences.flat_trees_stay.Goals as goal

pub returns : goal.returns
returns c = flat_trees_stay
