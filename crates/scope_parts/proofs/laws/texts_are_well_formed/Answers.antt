use Rattle.scope_parts.proofs.FormedDefinitions.{text_formed}
use Rattle.scope_parts.proofs.laws.texts_are_well_formed.Goals as goal

pub returns : goal.returns
returns c = text_formed
