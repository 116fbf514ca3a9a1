use Rattle.type_definitions.proofs.WithNewLemmas.{first_appearances}
use Rattle.type_definitions.proofs.with_new_keeps_first_appearances.Goals as goal

pub returns : goal.returns
returns c = first_appearances
