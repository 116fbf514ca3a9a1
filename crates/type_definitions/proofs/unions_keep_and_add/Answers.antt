use Rattle.type_definitions.proofs.WithNewLemmas.{unions}
use Rattle.type_definitions.proofs.unions_keep_and_add.Goals as goal

pub returns : goal.returns
returns c = unions
