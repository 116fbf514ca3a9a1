use Rattle.type_flatten.proofs.OneOutcome.{flattening_is_decided}
use Rattle.type_flatten.proofs.flattening_laws.flattening_is_decided.Goals as goal

pub returns : goal.returns
returns c = flattening_is_decided
