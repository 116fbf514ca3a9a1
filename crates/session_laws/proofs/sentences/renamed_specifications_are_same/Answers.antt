use Rattle.session_laws.proofs.TakenLemmas.{renamed_specifications_are_same}
use Rattle.session_laws.proofs.sentences.renamed_specifications_are_same.Goals as goal

pub returns : goal.returns
returns c = renamed_specifications_are_same
