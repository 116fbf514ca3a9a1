use Rattle.declaration_laws.proofs.SameResolutions.{same_data_resolve_alike}
use Rattle.declaration_laws.proofs.same_data.same_data_resolve_alike.Goals as goal

pub returns : goal.returns
returns c = same_data_resolve_alike
