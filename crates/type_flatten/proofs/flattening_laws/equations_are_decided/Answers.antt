use Rattle.type_flatten.proofs.OneReading.{equations_are_decided}
use Rattle.type_flatten.proofs.flattening_laws.equations_are_decided.Goals as goal

pub returns : goal.returns
returns c = equations_are_decided
